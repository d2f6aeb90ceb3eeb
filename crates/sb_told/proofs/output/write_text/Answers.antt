use Rattle.std.proofs.Common.{[], ap, ◌∙◌, rules}
use Rattle.std.proofs.KnownBytes.{Appends-nil}
use Rattle.sb_feed.specs.base.records.Rows.{row_text, text_of}
use Rattle.sb_feed.proofs.outside.Appending.{writes_err}
use Rattle.sb_feed.proofs.outside.SinkCauses.{no_call, calls_then, whatever_given, whatever_refused}
use Rattle.sb_told.proofs.Printing.{printing-more, printing-moved, printing-fails, printing-ends}
use Rattle.sb_told.proofs.output.write_text.Goals as goal

pub rows-preserved : goal.rows-preserved
rows-preserved g c =
    let taken = g.K.Sink.taken in
    let moved = c.in_ok-make_room.ensures.moves in
    let next = printing-moved row_text (taken c.args.out.now) (taken c.rows.out) (taken c.make_room.new.out) c.rows.batch c.make_room.new.batch moved.0 c.args.rows.now c.rows.row-index
    (g.K.Sink.sink_state c.args.out.now) (g.K.Sink.sink_state c.rows.out) (g.K.Sink.sink_state c.make_room.new.out) c.rows.invariant moved.1 moved.2 (whatever_given _ _ _ 0 c.in_ok-make_room.ensures.cause) in
    rw c.push.ensures (
    printing-more row_text (taken c.args.out.now) (taken c.make_room.new.out) c.make_room.new.batch c.as_slice.result.now c.args.rows.now c.rows.row-index c.row-item.result
    (g.K.Sink.sink_state c.args.out.now) (g.K.Sink.sink_state c.make_room.new.out) c.rows-test.true (c.as_slice.ensures.bytes ∙ c.row_bytes.ensures.text ∙ ap row_text c.row-item.is) next)

pub returns-in_err-make_room-clause-bytes : goal.returns-in_err-make_room-clause-bytes
returns-in_err-make_room-clause-bytes g c =
    let taken = g.K.Sink.taken in
    let prefix = printing-fails row_text (taken c.args.out.now) (taken c.rows.out) (taken c.make_room.new.out) c.rows.batch c.args.rows.now c.rows.row-index
    (g.K.Sink.sink_state c.args.out.now) (g.K.Sink.sink_state c.rows.out) c.rows.invariant c.in_err-make_room.ensures.moves in
    writes_err (taken c.args.out.now) (taken c.make_room.new.out) (text_of c.args.rows.now) c.from_residual.result c.from_residual.ensures.0 prefix

pub returns-clause-bytes : goal.returns-clause-bytes
returns-clause-bytes g c =
    let taken = g.K.Sink.taken in
    printing-ends row_text (taken c.args.out.now) (taken c.rows.out) (taken c.write_all_of.new.sink) c.rows.batch c.args.rows.now c.rows.row-index
    (g.K.Sink.sink_state c.args.out.now) (g.K.Sink.sink_state c.rows.out) c.write_all_of.result c.rows-test.false c.rows.invariant (rw c.as_slice-2.ensures.bytes at c.write_all_of.ensures.bytes)

pub rows-init : goal.rows-init
rows-init g c = record { written = []; appends = Appends-nil (g.K.Sink.taken c.args.out.now); whole = c.new-batch.ensures; cause = no_call (g.K.Sink.sink_state c.args.out.now) }

pub returns-in_err-make_room-clause-cause : goal.returns-in_err-make_room-clause-cause
returns-in_err-make_room-clause-cause g c =
    whatever_refused {S = Unit} _ _ c.in_err-make_room.field-0.0 _ (calls_then _ _ _ 0 _ c.rows.invariant.cause c.in_err-make_room.ensures.cause) (search (rules, c.from_residual.ensures.1))

pub returns-clause-cause : goal.returns-clause-cause
returns-clause-cause g c = calls_then _ _ _ 0 _ c.rows.invariant.cause c.write_all_of.ensures.cause
