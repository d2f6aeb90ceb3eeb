use Rattle.std.proofs.Common.{[], ◌∙◌, rules}
use Rattle.std.proofs.KnownBytes.{Appends-nil}
use Rattle.std.specs.Prelude.{flat_map}
use Rattle.sb_answers.specs.Telling.{event_line}
use Rattle.sb_alone.proofs.outside.Appending.{writes_err}
use Rattle.sb_alone.proofs.outside.SinkCauses.{no_call, calls_then, whatever_given, whatever_refused}
use Rattle.sb_told.proofs.Printing.{printing-more, printing-moved, printing-fails, printing-ends}
use Rattle.sb_answers.proofs.diaries.write_events.Goals as goal

pub events-preserved : goal.events-preserved
events-preserved g c =
    let taken = g.N.Sink.taken in
    let moved = c.in_ok-make_room.ensures.moves in
    let next = printing-moved event_line (taken c.args.notes.now) (taken c.events.notes) (taken c.make_room.new.out) c.events.batch c.make_room.new.batch moved.0 c.args.events.now c.events.event-index
    (g.N.Sink.sink_state c.args.notes.now) (g.N.Sink.sink_state c.events.notes) (g.N.Sink.sink_state c.make_room.new.out) c.events.invariant moved.1 moved.2 (whatever_given _ _ _ 0 c.in_ok-make_room.ensures.cause) in
    rw c.push.ensures (
    printing-more event_line (taken c.args.notes.now) (taken c.make_room.new.out) c.make_room.new.batch c.as_slice.result.now c.args.events.now c.events.event-index _
    (g.N.Sink.sink_state c.args.notes.now) (g.N.Sink.sink_state c.make_room.new.out) c.events-test.true (c.as_slice.ensures.bytes ∙ c.line_text.ensures) next)

pub returns-in_err-make_room-clause-bytes : goal.returns-in_err-make_room-clause-bytes
returns-in_err-make_room-clause-bytes g c =
    let taken = g.N.Sink.taken in
    let prefix = printing-fails event_line (taken c.args.notes.now) (taken c.events.notes) (taken c.make_room.new.out) c.events.batch c.args.events.now c.events.event-index
    (g.N.Sink.sink_state c.args.notes.now) (g.N.Sink.sink_state c.events.notes) c.events.invariant c.in_err-make_room.ensures.moves in
    writes_err (taken c.args.notes.now) (taken c.make_room.new.out) (flat_map event_line c.args.events.now) c.from_residual.result c.from_residual.ensures.0 prefix

pub returns-clause-bytes : goal.returns-clause-bytes
returns-clause-bytes g c =
    let taken = g.N.Sink.taken in
    printing-ends event_line (taken c.args.notes.now) (taken c.events.notes) (taken c.write_all_of.new.sink) c.events.batch c.args.events.now c.events.event-index
    (g.N.Sink.sink_state c.args.notes.now) (g.N.Sink.sink_state c.events.notes) c.write_all_of.result c.events-test.false c.events.invariant (rw c.as_slice-2.ensures.bytes at c.write_all_of.ensures.bytes)

pub events-init : goal.events-init
events-init g c = record { written = []; appends = Appends-nil (g.N.Sink.taken c.args.notes.now); whole = c.new-batch.ensures; cause = no_call (g.N.Sink.sink_state c.args.notes.now) }

pub returns-in_err-make_room-clause-cause : goal.returns-in_err-make_room-clause-cause
returns-in_err-make_room-clause-cause g c =
    whatever_refused {S = Unit} _ _ c.in_err-make_room.field-0.0 _ (calls_then _ _ _ 0 _ c.events.invariant.cause c.in_err-make_room.ensures.cause) (search (rules, c.from_residual.ensures.1))

pub returns-clause-cause : goal.returns-clause-cause
returns-clause-cause g c = calls_then _ _ _ 0 _ c.events.invariant.cause c.write_all_of.ensures.cause
