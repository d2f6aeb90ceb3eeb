-- What a single event does to a moment, and what a list of events does.
use Rattle.std.specs.Prelude.{◌≡◌, Bool, true, false, not, List, take, slice_get, Option, Some, None, Result, Ok, Err}
use Rattle.sb_slow.specs.base.pipeline.Shapes.{Shape}
use Rattle.sb_core.specs.declared.moment.Moment.{Moment}
use Rattle.sb_core.specs.declared.event.Event.{Event}
use Rattle.sb_core.specs.declared.event.Event.TheVariants.{Arrive, Seal, Take, Deliver, Finish, Begin, Pass, End}
use Rattle.sb_core.specs.declared.held.Held.{Held}
use Rattle.sb_core.specs.declared.held.Held.TheVariants.{Work, Close}
use Rattle.sb_machine.specs.declared.machine.StepStop.{StepStop}
use Rattle.sb_machine.specs.declared.machine.StepStop.TheVariants.{NotNow, Memory}
use Rattle.sb_machine.specs.declared.machine.RunStop.{RunStop}
use Rattle.sb_core.specs.containers.Choices.{first_and_rest}
use Rattle.sb_core.specs.Events.{after, run}
use Rattle.sb_core.specs.Moments.{is_work}

-- the moment is the later one; or there is none, as the condition failed; a refusal changes nothing. Out of memory says
-- nothing of the condition: memory may be asked for before all of it is known
abbrev pub Becomes : {T : Type 0} → Option Moment → Moment → Moment → Result T StepStop → Type 0
Becomes later old new (Ok x) = later ≡ Some new
Becomes later old new (Err NotNow) = (later ≡ None) × (new ≡ old)
Becomes later old new (Err Memory) = new ≡ old

-- whether it is a bundle that was delivered
abbrev pub is_delivered : Option (Held × List Held) → Bool
is_delivered None = false
is_delivered (Some (Work node lane epoch floor number records delivered, others)) = delivered
is_delivered (Some (Close node lane epoch serial floor mark rows passed, others)) = false

-- whether an event may ask for memory: an End does not, nor the Finish of a bundle that was delivered
abbrev pub asks_for_memory : Moment → Event → Bool
asks_for_memory m (Arrive stream records) = true
asks_for_memory m (Seal stream mark) = true
asks_for_memory m (Take node lane number) = true
asks_for_memory m (Deliver node lane number) = true
asks_for_memory m (Finish node lane number) = not (is_delivered (first_and_rest (is_work node lane number) m.held))
asks_for_memory m (Begin node lane) = true
asks_for_memory m (Pass node) = true
asks_for_memory m (End node) = false

-- why an event was refused
abbrev pub IsRefused : Shape → Moment → Event → StepStop → Type 0
IsRefused plan m event NotNow = after plan m event ≡ None
IsRefused plan m event Memory = asks_for_memory m event ≡ true

-- the events before the one at the place were done, and that one is refused
pub record StopsAt (plan : Shape) (old : Moment) (events : List Event) (new : Moment) (stop : RunStop) : Type 0 where
  pub event : Event
  pub there : slice_get events stop.at ≡ Some event
  pub done : run plan (take stop.at events) old ≡ Some new
  pub why : IsRefused plan new event stop.stop

-- all events were done, or those before the first refusal
abbrev pub Runs : {T : Type 0} → Shape → Moment → List Event → Moment → Result T RunStop → Type 0
Runs plan old events new (Ok x) = run plan events old ≡ Some new
Runs plan old events new (Err stop) = StopsAt plan old events new stop

-- the events that were done: all, or those before the one that was refused
abbrev pub done_of : {T : Type 0} → List Event → Result T RunStop → List Event
done_of events (Ok x) = events
done_of events (Err stop) = take stop.at events
