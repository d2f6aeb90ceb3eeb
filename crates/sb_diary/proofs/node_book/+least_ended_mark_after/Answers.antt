use Rattle.std.proofs.Common.{◌∙◌}
use Rattle.sb_diary.proofs.Nodes.{least_ended_mark_after-later}
use Rattle.sb_diary.proofs.node_book.+least_ended_mark_after.Goals as goal

pub returns-else-ends-eq0 : goal.returns-else-ends-eq0
returns-else-ends-eq0 t c =
    λ lane at. c.min-else-ends-eq0.ensures
    ∙ least_ended_mark_after-later c.args.lanes.now c.lane-item-2.result c.args.ends c.ended_mark.result c.least_ended_mark_after.result c.in-len1-up.len_at_least c.lane-item-2.is c.if-ends-eq0.false c.ended_mark.ensures c.least_ended_mark_after.ensures lane at
