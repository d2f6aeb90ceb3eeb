use Rattle.std.proofs.Common.{length}
use Rattle.sb_diary.proofs.node_book.+least_ended_mark_after.Given as goal

abbrev pub decreases-least_ended_mark_after : goal.decreases-least_ended_mark_after
decreases-least_ended_mark_after l = length l.lanes.now
