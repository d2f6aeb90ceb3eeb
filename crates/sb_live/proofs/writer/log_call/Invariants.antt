use Rattle.std.proofs.Common.{◌≡◌, ◌++◌, drop, map, take}
use Rattle.sb_live.specs.declared.change.Change.TheVariants.{Row}
use Rattle.sb_live.proofs.writer.log_call.Given as goal

abbrev pub invariant-loop-row : goal.invariant-loop-row
invariant-loop-row l = (l.writer.desk ≡ l.initial.writer.desk) × (drop l.writer.behind l.writer.log.items ≡ drop l.initial.writer.behind l.initial.writer.log.items ++ map Row (take l.row-index l.rows))
