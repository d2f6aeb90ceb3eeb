use Rattle.std.specs.Prelude.{flat_map, slice_get}
use Rattle.sb_alone.specs.base.pipeline.Operators.{lanes_of, operator_at}
use Rattle.sb_alone.specs.hand.Showing.{diaries_of}
use Rattle.sb_alone.specs.tally.Written.{diary_at}
use Rattle.sb_alone.proofs.outside.Appending.{prefix_of_more, writes_err}
use Rattle.sb_answers.specs.Telling.{event_line, head_line, node_text}
use Rattle.sb_told.proofs.Printing.{written_behind}
use Rattle.sb_answers.proofs.Tellings.{events_at}
use Rattle.sb_answers.proofs.diaries.write_node.Goals as goal

pub returns-in_err-write_head-clause-bytes : goal.returns-in_err-write_head-clause-bytes
returns-in_err-write_head-clause-bytes g c =
    let h = c.args.hand.now in
    let node = c.args.node in
    let taken = g.N.Sink.taken in
    writes_err (taken c.args.notes.now) (taken c.write_head.new.notes) (node_text h node) c.from_residual.result c.from_residual.ensures.0
    (prefix_of_more (taken c.args.notes.now) (taken c.write_head.new.notes) (head_line node (lanes_of (operator_at (slice_get h.plan.steps node)))) (flat_map event_line (diary_at (diaries_of h.nodes) node))
    (rw (c.lanes.ensures, c.plan.ensures) at c.in_err-write_head.ensures.bytes))

pub returns-clause-bytes : goal.returns-clause-bytes
returns-clause-bytes g c =
    let h = c.args.hand.now in
    let node = c.args.node in
    let taken = g.N.Sink.taken in
    let same = events_at h.nodes node c.diary.result.now c.diary.ensures in
    written_behind (taken c.args.notes.now) (taken c.write_head.new.notes) (taken c.write_events.new.notes)
    (head_line node (lanes_of (operator_at (slice_get h.plan.steps node)))) (flat_map event_line (diary_at (diaries_of h.nodes) node)) c.write_events.result
    (rw (c.lanes.ensures, c.plan.ensures) at c.in_ok-write_head.ensures.bytes)
    (rw (c.events.ensures, ← same) at c.write_events.ensures.bytes)
