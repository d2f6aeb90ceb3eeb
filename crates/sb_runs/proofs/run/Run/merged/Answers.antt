use Rattle.std.proofs.Common.{List, refl, sym, subst, ap, ◌∙◌}
use Rattle.sb_window.specs.declared.keyed_window.KeyedWindow.{KeyedWindow}
use Rattle.sb_window.specs.Gatherings.{joined_value}
use Rattle.sb_runs.specs.Runs.{IsRun, found}
use Rattle.sb_runs.proofs.Found.{found-apart}
use Rattle.sb_runs.proofs.Merging.{merged-is-run, merged-has}
use Rattle.sb_runs.proofs.run.Run.merged.Goals as goal

pub returns-then-is_before : goal.returns-then-is_before
returns-then-is_before g c q =
    let join = g.J.Joiner.joined c.args.joiner.now in
    ap (λ es. found es q) c.in_ok-entries.ensures
    ∙ sym (found-apart join c.self.inside.entries c.later.inside.entries (c.if-is_before.ensures refl) q)
    ∙ (λ i. joined_value join (found (c.self.view_is i) q) (found (c.later.view_is i) q))

pub invariant_of-result-2 : goal.invariant_of-result-2
invariant_of-result-2 g c =
    let join = g.J.Joiner.joined c.args.joiner.now in
    subst (λ (l : List (KeyedWindow × g.row.J-Value.Denot)). IsRun l) (sym c.in_ok-entries-2.ensures) (merged-is-run join c.args.self c.args.later (subst (λ (l : List (KeyedWindow × g.row.J-Value.Denot)). IsRun l) c.self.view_is c.self.invariant) (subst (λ (l : List (KeyedWindow × g.row.J-Value.Denot)). IsRun l) c.later.view_is c.later.invariant))

pub returns : goal.returns
returns g c q =
    let join = g.J.Joiner.joined c.args.joiner.now in
    ap (λ es. found es q) c.in_ok-entries-2.ensures
    ∙ merged-has join c.args.self c.args.later (subst (λ (l : List (KeyedWindow × g.row.J-Value.Denot)). IsRun l) c.self.view_is c.self.invariant) (subst (λ (l : List (KeyedWindow × g.row.J-Value.Denot)). IsRun l) c.later.view_is c.later.invariant) q
