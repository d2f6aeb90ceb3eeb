use Rattle.std.proofs.Common.{length}
use Rattle.sb_diary.proofs.node_book.+least_ended_mark.Given as goal

abbrev pub decreases-least_ended_mark : goal.decreases-least_ended_mark
decreases-least_ended_mark l = length l.lanes.now
