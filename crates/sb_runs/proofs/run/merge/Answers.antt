use Rattle.std.proofs.Common.{◌≡◌, [], ◌++◌, map, append-nil, sym, ap, ◌∙◌}
use Rattle.std.specs.Option.{option_to_list}
use Rattle.sb_runs.specs.Merged.{merged}
use Rattle.sb_runs.proofs.Merging.{none-left}
use Rattle.sb_runs.proofs.run.merge.Goals as goal

pub returns : goal.returns
returns g c =
    let join = g.J.Joiner.joined c.args.joiner.now in
    let rest = merged join c.entries.both.0 c.entries.both.1 in
    let none : rest ≡ [] = none-left rest (sym c.in_ok-entry.ensures.first ∙ ap (λ o. map g.J.Joiner.seen (option_to_list o)) c.in_default.is) in
    sym (append-nil c.entries.all) ∙ ap (λ l. c.entries.all ++ l) (sym none) ∙ c.entries.invariant ∙ ap (λ p. merged join p.0 p.1) c.new-both.ensures.both
