use Rattle.std.proofs.Common.{◌≡◌, ℕ, ◌+◌, List, ◌∷◌, ◌++◌, take, drop, sym, ap, ◌∙◌}
use Rattle.std.specs.Prelude.{decimal}
use Rattle.std.proofs.lemmas.List.{take_rest}
use Rattle.sb_checkpoint.proofs.Heads.{around-space, at-space, behind-word, no-space}
use Rattle.sb_checkpoint.proofs.line_reading.read_head.Goals as goal

pub returns-in_err-space-clause-none : goal.returns-in_err-space-clause-none
returns-in_err-space-clause-none c =
    rw c.from_residual-in_err-space.ensures (λ lines low h.
    let numbers = behind-word c.args.line.now c.in_ok-rest.rest.now lines low c.in_ok-rest.ensures.some h in
    no-space lines low h.few_lines (rw numbers at c.in_err-space.ensures))

pub returns-in_err-lines-clause-none : goal.returns-in_err-lines-clause-none
returns-in_err-lines-clause-none c =
    rw c.from_residual-in_err-lines.ensures (λ lines low h.
    let numbers = behind-word c.args.line.now c.in_ok-rest.rest.now lines low c.in_ok-rest.ensures.some h in
    c.in_err-lines.ensures.none lines (h.few_lines, (around-space lines low c.in_ok-rest.rest.now c.in_ok-space.space h.few_lines numbers c.in_ok-space.ensures).0))

pub returns-in_err-low-clause-none : goal.returns-in_err-low-clause-none
returns-in_err-low-clause-none c =
    rw c.from_residual-in_err-low.ensures (λ lines low h.
    let rest : List ℕ = c.in_ok-rest.rest.now in
    let numbers = behind-word c.args.line.now rest lines low c.in_ok-rest.ensures.some h in
    c.in_err-low.ensures.none low (h.small_low, take_rest rest (c.in_ok-space.space + 1) ∙ (around-space lines low rest c.in_ok-space.space h.few_lines numbers c.in_ok-space.ensures).1))

pub returns-clause-some : goal.returns-clause-some
returns-clause-some c =
    let rest : List ℕ = c.in_ok-rest.rest.now in
    let space : ℕ = c.in_ok-space.space in
    let lines : take space rest ≡ decimal c.in_ok-lines.lines = c.in_ok-lines.ensures.some.1 in
    let low : drop (space + 1) rest ≡ decimal c.in_ok-low.low = sym (take_rest rest (space + 1)) ∙ c.in_ok-low.ensures.some.1 in
    let numbers : rest ≡ decimal c.in_ok-lines.lines ++ 32 ∷ decimal c.in_ok-low.low = at-space rest space c.in_ok-space.ensures ∙ (λ i. lines i ++ 32 ∷ low i) in
    record {
      few_lines = c.in_ok-lines.ensures.some.0;
      small_low = c.in_ok-low.ensures.some.0;
      text = c.in_ok-rest.ensures.some ∙ ap (λ l. 99 ∷ 104 ∷ 101 ∷ 99 ∷ 107 ∷ 112 ∷ 111 ∷ 105 ∷ 110 ∷ 116 ∷ 32 ∷ l) numbers;
    }
