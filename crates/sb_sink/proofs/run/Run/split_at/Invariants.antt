use Rattle.std.proofs.Common.{length}
use Rattle.sb_sink.proofs.Runs.{Cutting}
use Rattle.sb_sink.proofs.run.Run.split_at.Given as goal

abbrev pub invariant-rows : goal.invariant-rows
invariant-rows l = Cutting l.mark l.initial.rest.items l.below.items l.rest.items

abbrev pub decreases-rows : goal.decreases-rows
decreases-rows l = length l.rest.items
