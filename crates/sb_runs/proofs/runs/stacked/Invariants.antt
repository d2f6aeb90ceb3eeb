use Rattle.std.proofs.Common.{◌≡◌, ◌≤◌, length}
use Rattle.sb_window.specs.declared.keyed_window.KeyedWindow.{KeyedWindow}
use Rattle.sb_window.specs.Gatherings.{joined_value}
use Rattle.sb_runs.specs.declared.runs.TheConstants.{MOST_STACKED}
use Rattle.sb_runs.specs.Runs.{found_in}
use Rattle.sb_runs.proofs.runs.stacked.Given as goal

abbrev pub invariant-runs : goal.invariant-runs
invariant-runs g l = let join = g.J.Joiner.joined l.joiner in record {
  same : (q : KeyedWindow) → joined_value join (found_in join l.stack.items q) (found_in join l.rest.items q) ≡ found_in join l.initial.rest.items q;
  bound : length l.stack.items ≤ MOST_STACKED;
}

abbrev pub decreases-runs : goal.decreases-runs
decreases-runs g l = length l.rest.items
