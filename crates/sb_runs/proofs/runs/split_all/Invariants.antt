use Rattle.std.proofs.Common.{◌≡◌, ◌+◌, ◌≤◌, cond, None, length}
use Rattle.std.specs.Prelude.{nat_lt}
use Rattle.sb_window.specs.declared.keyed_window.KeyedWindow.{KeyedWindow}
use Rattle.sb_window.specs.Gatherings.{joined_value}
use Rattle.sb_runs.specs.Runs.{found_in}
use Rattle.sb_runs.proofs.runs.split_all.Given as goal

abbrev pub invariant-runs : goal.invariant-runs
invariant-runs g l = let join = g.J.Joiner.joined l.joiner in record {
  closed : (q : KeyedWindow) → joined_value join (found_in join l.closed.items q) (cond (nat_lt l.mark q.end) None (found_in join l.rest.items q)) ≡ cond (nat_lt l.mark q.end) None (found_in join l.initial.rest.items q);
  opened : (q : KeyedWindow) → joined_value join (found_in join l.open.items q) (cond (nat_lt l.mark q.end) (found_in join l.rest.items q) None) ≡ cond (nat_lt l.mark q.end) (found_in join l.initial.rest.items q) None;
  bound : length l.open.items + length l.rest.items ≤ length l.initial.rest.items;
}

abbrev pub decreases-runs : goal.decreases-runs
decreases-runs g l = length l.rest.items
