use Rattle.std.proofs.Common.{◌≡◌, ◌++◌}
use Rattle.sb_base.specs.window.Gatherings.{rows_of_entries}
use Rattle.sb_base.specs.windowed.Aggregates.{aggregate_values}
use Rattle.sb_slow.proofs.operate.aggregates_of.Given as goal

abbrev pub invariant-loop-window : goal.invariant-loop-window
invariant-loop-window l = l.rows.items ++ rows_of_entries (aggregate_values l.agg) l.window-iterator ≡ rows_of_entries (aggregate_values l.agg) l.fn.values.entries
