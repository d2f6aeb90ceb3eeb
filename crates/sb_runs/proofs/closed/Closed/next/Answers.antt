use Rattle.std.proofs.Common.{◌-◌, List, length, drop, sym, subst, ◌∙◌}
use Rattle.sb_window.specs.declared.keyed_window.KeyedWindow.{KeyedWindow}
use Rattle.sb_runs.specs.Merged.{merged}
use Rattle.sb_runs.specs.Runs.{IsRun}
use Rattle.sb_runs.proofs.Found.{run-drop}
use Rattle.sb_runs.proofs.Merging.{next-left}
use Rattle.sb_runs.proofs.closed.Closed.next.Goals as goal

pub invariant_of-self : goal.invariant_of-self
invariant_of-self g c = (subst (λ (l : List (KeyedWindow × g.row.J-Value.Denot)). IsRun l) (sym c.pop_first.ensures.rest) (run-drop 1 c.self.inside.ones c.self.invariant.0), c.self.invariant.1)

pub invariant_of-self-in-Some-Greater : goal.invariant_of-self-in-Some-Greater
invariant_of-self-in-Some-Greater g c = (c.self.invariant.0, subst (λ (l : List (KeyedWindow × g.row.J-Value.Denot)). IsRun l) (sym c.pop_first-in-Some-Greater.ensures.rest) (run-drop 1 c.self.inside.others c.self.invariant.1))

pub invariant_of-self-in-Some-Equal : goal.invariant_of-self-in-Some-Equal
invariant_of-self-in-Some-Equal g c = (
  subst (λ (l : List (KeyedWindow × g.row.J-Value.Denot)). IsRun l) (sym c.joined_first.ensures.ones) (run-drop 1 c.self.inside.ones c.self.invariant.0),
  subst (λ (l : List (KeyedWindow × g.row.J-Value.Denot)). IsRun l) (sym c.joined_first.ensures.others) (run-drop 1 c.self.inside.others c.self.invariant.1),
)

pub invariant_of-self-in-None : goal.invariant_of-self-in-None
invariant_of-self-in-None g c = (
  subst (λ (l : List (KeyedWindow × g.row.J-Value.Denot)). IsRun l) (sym c.first_left.ensures.ones) (run-drop 1 c.self.inside.ones c.self.invariant.0),
  subst (λ (l : List (KeyedWindow × g.row.J-Value.Denot)). IsRun l) (sym c.first_left.ensures.others) (run-drop (1 - length c.self.inside.ones) c.self.inside.others c.self.invariant.1),
)

pub returns-in-None-clause-rest : goal.returns-in-None-clause-rest
returns-in-None-clause-rest g c =
    let join = g.J.Joiner.joined c.args.joiner.now in
    (λ i. merged join (c.first_left.ensures.ones i) (c.first_left.ensures.others i))
    ∙ (next-left join c.self.inside.ones c.self.inside.others (sym c.compare_firsts.ensures ∙ c.in-None.is)).left
    ∙ (λ i. drop 1 (merged join (c.self.view_is i).0 (c.self.view_is i).1))
