use Rattle.std.proofs.Common.{◌≡◌, length}
use Rattle.sb_window.specs.declared.keyed_window.KeyedWindow.{KeyedWindow}
use Rattle.sb_window.specs.Gatherings.{joined_value}
use Rattle.sb_runs.specs.Runs.{found, found_in}
use Rattle.sb_runs.proofs.runs.into_one.Given as goal

abbrev pub invariant-runs : goal.invariant-runs
invariant-runs g l =
    let join = g.J.Joiner.joined l.joiner in
    (q : KeyedWindow) → joined_value join (found_in join l.rest.items q) (found l.all q) ≡ found_in join l.initial.rest.items q

abbrev pub decreases-runs : goal.decreases-runs
decreases-runs g l = length l.rest.items
