use Rattle.std.proofs.Common.{[], ◌∙◌, rules}
use Rattle.std.proofs.KnownBytes.{Appends-nil}
use Rattle.std.specs.Prelude.{flat_map}
use Rattle.sb_told.specs.Statuses.{late_line}
use Rattle.sb_feed.proofs.outside.Appending.{writes_err}
use Rattle.sb_feed.proofs.outside.SinkCauses.{no_call, calls_then, whatever_given, whatever_refused}
use Rattle.sb_told.proofs.Printing.{printing-more, printing-moved, printing-fails, printing-ends}
use Rattle.sb_told.proofs.output.write_dropped.Goals as goal

pub dropped-preserved : goal.dropped-preserved
dropped-preserved g c =
    let taken = g.N.Sink.taken in
    let moved = c.in_ok-make_room.ensures.moves in
    let next = printing-moved (late_line c.args.file) (taken c.args.notes.now) (taken c.dropped.notes) (taken c.make_room.new.out) c.dropped.batch c.make_room.new.batch moved.0 c.args.dropped.now c.dropped.late-index
    (g.N.Sink.sink_state c.args.notes.now) (g.N.Sink.sink_state c.dropped.notes) (g.N.Sink.sink_state c.make_room.new.out) c.dropped.invariant moved.1 moved.2 (whatever_given _ _ _ 0 c.in_ok-make_room.ensures.cause) in
    rw c.push.ensures (
    printing-more (late_line c.args.file) (taken c.args.notes.now) (taken c.make_room.new.out) c.make_room.new.batch c.as_slice.result.now c.args.dropped.now c.dropped.late-index _
    (g.N.Sink.sink_state c.args.notes.now) (g.N.Sink.sink_state c.make_room.new.out) c.dropped-test.true (c.as_slice.ensures.bytes ∙ c.late_note.ensures) next)

pub returns-in_err-make_room-clause-bytes : goal.returns-in_err-make_room-clause-bytes
returns-in_err-make_room-clause-bytes g c =
    let taken = g.N.Sink.taken in
    let prefix = printing-fails (late_line c.args.file) (taken c.args.notes.now) (taken c.dropped.notes) (taken c.make_room.new.out) c.dropped.batch c.args.dropped.now c.dropped.late-index
    (g.N.Sink.sink_state c.args.notes.now) (g.N.Sink.sink_state c.dropped.notes) c.dropped.invariant c.in_err-make_room.ensures.moves in
    writes_err (taken c.args.notes.now) (taken c.make_room.new.out) (flat_map (late_line c.args.file) c.args.dropped.now) c.from_residual.result c.from_residual.ensures.0 prefix

pub returns-clause-bytes : goal.returns-clause-bytes
returns-clause-bytes g c =
    let taken = g.N.Sink.taken in
    printing-ends (late_line c.args.file) (taken c.args.notes.now) (taken c.dropped.notes) (taken c.write_all_of.new.sink) c.dropped.batch c.args.dropped.now c.dropped.late-index
    (g.N.Sink.sink_state c.args.notes.now) (g.N.Sink.sink_state c.dropped.notes) c.write_all_of.result c.dropped-test.false c.dropped.invariant (rw c.as_slice-2.ensures.bytes at c.write_all_of.ensures.bytes)

pub dropped-init : goal.dropped-init
dropped-init g c = record { written = []; appends = Appends-nil (g.N.Sink.taken c.args.notes.now); whole = c.new-batch.ensures; cause = no_call (g.N.Sink.sink_state c.args.notes.now) }

pub returns-in_err-make_room-clause-cause : goal.returns-in_err-make_room-clause-cause
returns-in_err-make_room-clause-cause g c =
    whatever_refused {S = Unit} _ _ c.in_err-make_room.field-0.0 _ (calls_then _ _ _ 0 _ c.dropped.invariant.cause c.in_err-make_room.ensures.cause) (search (rules, c.from_residual.ensures.1))

pub returns-clause-cause : goal.returns-clause-cause
returns-clause-cause g c = calls_then _ _ _ 0 _ c.dropped.invariant.cause c.write_all_of.ensures.cause
