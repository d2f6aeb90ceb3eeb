use Rattle.std.proofs.Common.{ℕ, ◌≤◌, ◌-◌, length, take, Ok}
use Rattle.std.specs.Io.KnownBytes.{Appends}
use Rattle.sb_record.specs.Rows.{text_of}
use Rattle.sb_outside.specs.Sinks.{SinkCause}
use Rattle.sb_emit.proofs.Writing.{Writing}
use Rattle.sb_emit.proofs.printing.PrintingRowOut.rows.Given as goal

abbrev pub invariant-batches : goal.invariant-batches
invariant-batches g l = record {
  within : l.done ≤ length l.rows;
  taken : Appends (g.K.Sink.taken l.initial.self-inside.sink) (g.K.Sink.taken l.self-inside.sink) (text_of (take l.done l.rows));
  cause : SinkCause {T = ℕ} (g.K.Sink.sink_state l.initial.self-inside.sink) (g.K.Sink.sink_state l.self-inside.sink) (Ok 0);
}

abbrev pub decreases-batches : goal.decreases-batches
decreases-batches g l = length l.rows - l.done

abbrev pub invariant-writes : goal.invariant-writes
invariant-writes g l =
    Writing (g.K.Sink.taken l.initial.self-inside.1.0) (g.K.Sink.taken l.self-inside.1.0) l.text l.written (g.K.Sink.sink_state l.initial.self-inside.1.0) (g.K.Sink.sink_state l.self-inside.1.0)

abbrev pub decreases-writes : goal.decreases-writes
decreases-writes g l = length l.text - l.written
