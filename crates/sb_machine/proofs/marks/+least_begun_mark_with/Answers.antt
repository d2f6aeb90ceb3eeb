use Rattle.std.proofs.Common.{◌∙◌}
use Rattle.sb_machine.proofs.Closed.{least_begun_mark_with-later}
use Rattle.sb_machine.proofs.marks.+least_begun_mark_with.Goals as goal

pub returns-else-begins-eq0 : goal.returns-else-begins-eq0
returns-else-begins-eq0 t c =
    λ lane cont conts at has. c.min-else-begins-eq0.ensures
    ∙ least_begun_mark_with-later c.args.lanes.now c.lane-item-2.result c.args.begins c.last_begun.result c.least_begun_mark_with.result c.in-len1-up.len_at_least c.lane-item-2.is c.if-begins-eq0.false c.last_begun.ensures c.least_begun_mark_with.ensures lane cont conts at has
