-- What a sink over std counts.
use Rattle.std.specs.Prelude.{◌≡◌, ◌⊎◌, ◌≤◌, true, false, Result, Ok, Err}
use Rattle.sb_outside.specs.Schedules.{next_count}
use Rattle.sb_outside.specs.Sinks.{SinkState}
use Rattle.sb_outside.specs.declared.sink.SinkFault.{SinkFault}
use Rattle.sb_outside.specs.declared.sink.SinkFault.TheVariants as fault

-- one fault more
abbrev pub after_fault : SinkState → SinkState
after_fault s = record s { faults = next_count s.faults }

-- one shortage of memory more
abbrev pub after_shortage : SinkState → SinkState
after_shortage s = record s { shortages = next_count s.shortages }

-- one fault more, which nobody was told of
abbrev pub after_untold : SinkState → SinkState
after_untold s = record s { faults = next_count s.faults; refuses = true }

-- no count falls
abbrev pub NeverFalls : SinkState → SinkState → Type 0
NeverFalls before now = (before.faults ≤ now.faults) × (before.shortages ≤ now.shortages)

-- what a call counts: a refusal, or if bytes were taken a flush that failed behind them, if any
abbrev pub Counts : {T : Type 0} → SinkState → SinkState → Result T SinkFault → Type 0
Counts before now (Ok x) = (before.refuses ≡ false) × ((now ≡ before) ⊎ (now ≡ after_untold before))
Counts before now (Err fault.Failed) = now ≡ after_fault before
Counts before now (Err fault.Memory) = (before.refuses ≡ false) × (now ≡ after_shortage before)
