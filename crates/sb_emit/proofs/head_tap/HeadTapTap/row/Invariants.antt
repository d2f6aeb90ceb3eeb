use Rattle.std.proofs.Common.{◌≡◌, ◌-◌, length}
use Rattle.sb_emit.proofs.Writing.{Writing}
use Rattle.sb_emit.proofs.head_tap.HeadTapTap.row.Given as goal

abbrev pub invariant-writes : goal.invariant-writes
invariant-writes g l = record {
  writing : Writing (g.K.Sink.taken l.initial.self-inside.sink) (g.K.Sink.taken l.self-inside.sink) l.bytes l.written (g.K.Sink.sink_state l.initial.self-inside.sink) (g.K.Sink.sink_state l.self-inside.sink);
  head : l.self-inside.head ≡ l.initial.self-inside.head;
}

abbrev pub decreases-writes : goal.decreases-writes
decreases-writes g l = length l.bytes - l.written
