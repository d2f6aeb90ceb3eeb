use Rattle.std.proofs.Common.{◌≡◌, ◌++◌}
use Rattle.sb_aggregate.specs.Partials.{rows_of_values}
use Rattle.sb_aggregate.proofs.partial.Partial.push_rows.Given as goal

abbrev pub invariant-loop-value : goal.invariant-loop-value
invariant-loop-value l = l.rows.items ≡ l.initial.rows.items ++ rows_of_values l.window l.yielded
