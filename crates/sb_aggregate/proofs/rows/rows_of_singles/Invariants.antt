use Rattle.std.proofs.Common.{◌≡◌, ◌++◌, length}
use Rattle.sb_runs.specs.Merged.{merged}
use Rattle.sb_runs.specs.window.Gatherings.{rows_of_entries}
use Rattle.sb_aggregate.specs.Partials.{final_values, join_values}
use Rattle.sb_aggregate.proofs.rows.rows_of_singles.Given as goal

abbrev pub invariant-windows : goal.invariant-windows
invariant-windows l =
    l.rows.items ++ rows_of_entries (final_values l.joiner) (merged (join_values l.joiner) l.left.0 l.left.1)
    ≡ rows_of_entries (final_values l.joiner) (merged (join_values l.joiner) l.initial.left.0 l.initial.left.1)

abbrev pub decreases-windows : goal.decreases-windows
decreases-windows l = length (merged (join_values l.joiner) l.left.0 l.left.1)
