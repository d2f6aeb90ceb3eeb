-- The taps of this crate, and what they show as taps.
use Rattle.std.specs.Prelude.{ℕ, false, nat_le, List, length}
use Rattle.sb_record.specs.declared.item.Record.{Record}
use Rattle.sb_outside.specs.Sinks.{SinkState}
use Rattle.sb_outside.specs.declared.sink.SinkFault.{SinkFault}
use Rattle.sb_outside.specs.declared.sink.SinkFault.TheVariants as sink_fault
use Rattle.sb_emit.specs.declared.tap.TapFault.{TapFault}
use Rattle.sb_emit.specs.declared.tap.TapFault.TheVariants as tap_fault
use Rattle.sb_emit.specs.Taps.{TapState}

-- how many rows are enough, and those that were seen
pub record HeadRows : Type 0 where
  pub most : ℕ
  pub seen : List Record

-- a tap that writes rows to a sink
pub record Heading (K : Type 0) : Type 0 where
  pub sink : K
  pub head : HeadRows

-- lists of at least so many rows are enough, and its faults are those of its sink
abbrev pub head_state : HeadRows → SinkState → TapState
head_state head sink =
    record { seen = head.seen; is_full = λ rows. nat_le head.most (length rows); faults = sink.faults }

-- a tap refuses for the reason of its sink
abbrev pub tap_fault_of : SinkFault → TapFault
tap_fault_of sink_fault.Failed = tap_fault.Failed
tap_fault_of sink_fault.Memory = tap_fault.Memory

-- a tap that counts rows: the numbers of the calls that fail, and how many calls there were and how many failed
pub record Counting : Type 0 where
  pub failing : List ℕ
  pub calls : ℕ
  pub faults : ℕ
  pub seen : List Record

-- no list of rows is enough
abbrev pub count_state : Counting → TapState
count_state t = record { seen = t.seen; is_full = λ rows. false; faults = t.faults }
