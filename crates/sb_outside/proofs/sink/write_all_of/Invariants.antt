use Rattle.std.proofs.Common.{◌≤◌, ◌-◌, ℕ, length, take, Ok}
use Rattle.std.specs.Io.KnownBytes.{Appends}
use Rattle.sb_outside.specs.Sinks.{SinkCause}
use Rattle.sb_outside.proofs.sink.write_all_of.Given as goal

abbrev pub invariant-writes : goal.invariant-writes
invariant-writes g l = record {
  within : l.done ≤ length l.bytes;
  taken : Appends (g.K.Sink.taken l.initial.sink) (g.K.Sink.taken l.sink) (take l.done l.bytes);
  cause : SinkCause {T = ℕ} (g.K.Sink.sink_state l.initial.sink) (g.K.Sink.sink_state l.sink) (Ok 0);
}

abbrev pub decreases-writes : goal.decreases-writes
decreases-writes g l = length l.bytes - l.done
