use Rattle.std.proofs.Common.{◌-◌, take, length, Ok}
use Rattle.std.specs.Io.KnownBytes.{Appends}
use Rattle.sb_outside.specs.Sinks.{SinkCause}
use Rattle.sb_checkpoint.specs.Texts.{items_text}
use Rattle.sb_checkpoint.specs.Saved.{items_in}
use Rattle.sb_checkpoint.proofs.writing.write_items.Given as goal

abbrev pub invariant-items : goal.invariant-items
invariant-items g l = record {
  taken : Appends (g.K.Sink.taken l.initial.sink) (g.K.Sink.taken l.sink) (items_text (take l.place (items_in l.checkpoint)));
  cause : SinkCause {T = Unit {0}} (g.K.Sink.sink_state l.initial.sink) (g.K.Sink.sink_state l.sink) (Ok tt);
}

abbrev pub decreases-items : goal.decreases-items
decreases-items g l = length (items_in l.checkpoint) - l.place
