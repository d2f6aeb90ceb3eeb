use Rattle.std.proofs.Common.{cond, List, None, sym, subst, ap, ◌∙◌}
use Rattle.std.specs.Prelude.{nat_lt}
use Rattle.std.specs.VecDeque.{deque_items}
use Rattle.sb_window.specs.declared.keyed_window.KeyedWindow.{KeyedWindow}
use Rattle.sb_runs.specs.Merged.{merged}
use Rattle.sb_runs.specs.Runs.{IsRun, found, found_in}
use Rattle.sb_runs.proofs.Merging.{merged-is-run, merged-has}
use Rattle.sb_runs.proofs.runs.Runs.close.Goals as goal

pub returns-clause-run : goal.returns-clause-run
returns-clause-run g c =
    let join = g.J.Joiner.joined c.args.joiner.now in
    subst (λ (p : List (KeyedWindow × g.row.J-Value.Denot) × List (KeyedWindow × g.row.J-Value.Denot)). IsRun (merged join p.0 p.1)) (sym c.new-2.ensures.both) (merged-is-run join c.in_ok-first.first c.in_ok-first.last c.new-2.ensures.runs.0 c.new-2.ensures.runs.1)

pub returns-clause-closed : goal.returns-clause-closed
returns-clause-closed g c q =
    let join = g.J.Joiner.joined c.args.joiner.now in
    ap (λ (p : List (KeyedWindow × g.row.J-Value.Denot) × List (KeyedWindow × g.row.J-Value.Denot)). found (merged join p.0 p.1) q) c.new-2.ensures.both
    ∙ merged-has join c.in_ok-first.first c.in_ok-first.last c.new-2.ensures.runs.0 c.new-2.ensures.runs.1 q
    ∙ c.in_ok-first.ensures q
    ∙ c.in_ok-closed.ensures.closed q
    ∙ ap (λ o. cond (nat_lt c.args.mark q.end) None o) (ap (λ d. found_in join (deque_items d) q) c.replace-runs.ensures.value ∙ ap (λ rs. found_in join rs q) c.self.view_is)

pub returns-clause-opened : goal.returns-clause-opened
returns-clause-opened g c q =
    let join = g.J.Joiner.joined c.args.joiner.now in
    c.in_ok-closed.ensures.opened q
    ∙ ap (λ o. cond (nat_lt c.args.mark q.end) o None) (ap (λ d. found_in join (deque_items d) q) c.replace-runs.ensures.value ∙ ap (λ rs. found_in join rs q) c.self.view_is)
