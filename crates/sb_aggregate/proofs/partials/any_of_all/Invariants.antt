use Rattle.std.proofs.Common.{◌≡◌, length}
use Rattle.sb_runs.specs.window.declared.keyed_window.KeyedWindow.{KeyedWindow}
use Rattle.sb_runs.specs.window.Gatherings.{joined_value}
use Rattle.sb_runs.specs.Runs.{found_in}
use Rattle.sb_aggregate.specs.Partials.{join_values}
use Rattle.sb_aggregate.proofs.partials.any_of_all.Given as goal

abbrev pub invariant-runs : goal.invariant-runs
invariant-runs l = (q : KeyedWindow) → joined_value (join_values l.joiner.agg) (found_in (join_values l.joiner.agg) l.all q) (found_in (join_values l.joiner.agg) l.rest.items q) ≡ found_in (join_values l.joiner.agg) l.initial.rest.items q

abbrev pub decreases-runs : goal.decreases-runs
decreases-runs l = length l.rest.items
