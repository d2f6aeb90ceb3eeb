use Rattle.std.proofs.Common.{take}
use Rattle.sb_emit.specs.Summaries.{Adds}
use Rattle.sb_emit.proofs.summary.SummaryRowOut.rows.Given as goal

abbrev pub invariant-rows : goal.invariant-rows
invariant-rows l = Adds l.initial.self (take l.row-index l.rows) l.self
