-- What the counts of an output say where rows were given out.
use Rattle.std.specs.Prelude.{◌≡◌, ◌≤◌, true, false, Result, Ok, Err, IsErrOf, ⊤}
use Rattle.sb_outside.specs.Sinks.{SinkState}
use Rattle.sb_outside.specs.Sources.{Rose}
use Rattle.sb_feed.specs.declared.give.GiveStop.{GiveStop}
use Rattle.sb_feed.specs.declared.give.GiveStop.TheVariants as stop

-- writing went well: a tap may have failed
abbrev pub WritingWentWell : {T : Type 0} → Result T GiveStop → Type 0
WritingWentWell (Ok x) = ⊤
WritingWentWell (Err (stop.Tap place)) = ⊤
WritingWentWell (Err stop.Output) = ⊥
WritingWentWell (Err stop.Memory) = ⊥

-- no count falls, and an output that refuses goes on refusing. A failed write is answered only if the count of faults
-- rose, and if writing went well it did not, unless the output refuses from then on
pub record GiveCause {T : Type 0} (before now : SinkState) (result : Result T GiveStop) : Type 0 where
  pub never_falls : before.faults ≤ now.faults
  pub never_short : before.shortages ≤ now.shortages
  pub keeps_refusing : before.refuses ≡ true → now.refuses ≡ true
  pub failed : IsErrOf result stop.Output → Rose before.faults now.faults
  pub passed : WritingWentWell result → now.refuses ≡ false → now.faults ≡ before.faults
