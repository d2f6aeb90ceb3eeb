use Rattle.std.proofs.Common.{◌≡◌, ℕ, ◌≤◌, ◌-◌, length, take, Ok}
use Rattle.std.specs.Io.KnownBytes.{Appends}
use Rattle.sb_record.specs.Rows.{text_of}
use Rattle.sb_outside.specs.Sinks.{SinkCause}
use Rattle.sb_emit.proofs.Writing.{Writing}
use Rattle.sb_emit.proofs.lent.LentRowOut.rows.Given as goal

abbrev pub invariant-batches : goal.invariant-batches
invariant-batches g l = record {
  named : l.self.sink.ghost_name ≡ l.initial.self.sink.ghost_name;
  within : l.done ≤ length l.rows;
  taken : Appends (g.K.Sink.taken l.initial.self.sink.now) (g.K.Sink.taken l.self.sink.now) (text_of (take l.done l.rows));
  cause : SinkCause {T = ℕ} (g.K.Sink.sink_state l.initial.self.sink.now) (g.K.Sink.sink_state l.self.sink.now) (Ok 0);
}

abbrev pub decreases-batches : goal.decreases-batches
decreases-batches g l = length l.rows - l.done

abbrev pub invariant-writes : goal.invariant-writes
invariant-writes g l = record {
  named : l.self.sink.ghost_name ≡ l.initial.self.sink.ghost_name;
  writing : Writing (g.K.Sink.taken l.initial.self.sink.now) (g.K.Sink.taken l.self.sink.now) l.text l.written
      (g.K.Sink.sink_state l.initial.self.sink.now) (g.K.Sink.sink_state l.self.sink.now);
}

abbrev pub decreases-writes : goal.decreases-writes
decreases-writes g l = length l.text - l.written
