use Rattle.std.proofs.Common.{length}
use Rattle.sb_machine.proofs.marks.+least_begun_mark_with.Given as goal

abbrev pub decreases-least_begun_mark_with : goal.decreases-least_begun_mark_with
decreases-least_begun_mark_with l = length l.lanes.now
