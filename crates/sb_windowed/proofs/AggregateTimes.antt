-- The times of the rows of an aggregation.
use Rattle.std.proofs.Common.{ℕ, ◌+◌, ◌≤◌, List}
use Rattle.std.specs.List.{AllByRecursion}
use Rattle.sb_window.specs.records.declared.item.Record.{Record}
use Rattle.sb_window.specs.Spacing.{Spacing}
use Rattle.sb_window.proofs.Rows.{rows_by-times}
use Rattle.sb_windowed.specs.declared.aggregate.Agg.{Agg}
use Rattle.sb_windowed.specs.Aggregates.{aggregate_values, aggregate_rows}

-- a row's window ends at most a size after the greatest time
pub aggregate_rows-times : (agg : Agg) (windows : Spacing) (bound : ℕ) (l : List Record) → AllByRecursion (λ r. r.time ≤ bound) l → AllByRecursion (λ r. r.time + 1 ≤ bound + windows.size) (aggregate_rows agg windows l)
aggregate_rows-times agg windows bound l low = rows_by-times (aggregate_values agg) windows bound l low
