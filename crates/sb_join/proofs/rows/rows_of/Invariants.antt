use Rattle.std.proofs.Common.{◌++◌, length}
use Rattle.sb_runs.specs.Merged.{merged}
use Rattle.sb_runs.specs.records.Reorderings.{IsReordered}
use Rattle.sb_runs.specs.window.Gatherings.{rows_of_entries}
use Rattle.sb_join.specs.Entries.{combined_values}
use Rattle.sb_join.proofs.rows.rows_of.Given as goal

abbrev pub invariant-windows : goal.invariant-windows
invariant-windows l =
    IsReordered (l.rows.items ++ rows_of_entries (combined_values l.combine) (merged (λ v w. v ++ w) l.waiting.0 l.waiting.1))
    (rows_of_entries (combined_values l.combine) (merged (λ v w. v ++ w) l.initial.waiting.0 l.initial.waiting.1))

abbrev pub decreases-windows : goal.decreases-windows
decreases-windows l = length (merged (λ v w. v ++ w) l.waiting.0 l.waiting.1)
