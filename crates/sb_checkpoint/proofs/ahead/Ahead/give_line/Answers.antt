use Rattle.std.proofs.Common.{◌≡◌, ◌≤◌, ℕ, ◌-◌, List, length, take, drop, sym, ap, ◌∙◌, arith}
use Rattle.std.proofs.lemmas.List.{take_rest}
use Rattle.sb_checkpoint.specs.Ahead.{Lines}
use Rattle.sb_checkpoint.proofs.LinesAhead.{given_of_line}
use Rattle.sb_checkpoint.proofs.ahead.Ahead.give_line.Goals as goal

pub returns-clause-given : goal.returns-clause-given
returns-clause-given c =
    let line : List ℕ = c.self.inside.line in
    let from : ℕ = c.self.inside.from in
    let count : ℕ = c.min-count.result in
    let rest : take (length c.as_slice.result.now - from) (drop from c.as_slice.result.now) ≡ drop from line = take_rest c.as_slice.result.now from ∙ ap (drop from) c.as_slice.ensures.bytes in
    let copied : c.copy_from_slice.new.self ≡ take count (drop from line) = c.copy_from_slice.ensures.after ∙ ap (take count) rest in
    let fits : count ≤ length (drop from line) = omega (arith, c.min-count.ensures, ap length rest) in
    ap (λ (v : Lines). v.at_hand) (sym c.self.view_is) ∙ given_of_line line from count c.copy_from_slice.new.self (drop count c.args.buf.now) copied fits
