use Rattle.std.proofs.Common.{◌≡◌, ◌++◌, map, take}
use Rattle.sb_session.specs.Closings.{row_of}
use Rattle.sb_session.proofs.close.push_values.Given as goal

abbrev pub invariant-loop-value : goal.invariant-loop-value
invariant-loop-value l = l.rows.items ≡ l.fn.rows.items ++ map (row_of l.session) (take l.value-index l.values)
