use Rattle.std.proofs.Common.{length}
use Rattle.sb_machine.proofs.marks.+least_begun_mark.Given as goal

abbrev pub decreases-least_begun_mark : goal.decreases-least_begun_mark
decreases-least_begun_mark l = length l.lanes.now
