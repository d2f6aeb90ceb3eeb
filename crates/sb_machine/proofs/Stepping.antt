-- What an event does to a sound moment, and what one event more does to a list of events.
use Rattle.std.proofs.Common.{◌≡◌, List, [], ◌∷◌, ◌++◌, Some, Option, refl, sym, ap, subst, ◌∙◌}
use Rattle.std.specs.Prelude.{Result, Ok, Err, OnOk}
use Rattle.std.proofs.lemmas.Option.{same_Some}
use Rattle.sb_slow.specs.base.records.declared.item.Record.{Record}
use Rattle.sb_slow.specs.base.records.declared.item.Stream.{Stream}
use Rattle.sb_slow.specs.base.records.Reading.{◌>>=◌}
use Rattle.sb_slow.specs.base.NumberLemmas.{bind_some}
use Rattle.sb_slow.specs.base.pipeline.Shapes.{Shape}
use Rattle.sb_slow.specs.base.pipeline.Plans.{IsPlan}
use Rattle.sb_core.specs.declared.moment.Moment.{Moment}
use Rattle.sb_core.specs.declared.event.Event.{Event}
use Rattle.sb_machine.specs.declared.machine.StepStop.{StepStop}
use Rattle.sb_machine.specs.declared.machine.StepStop.TheVariants.{NotNow, Memory}
use Rattle.sb_core.specs.Events
use Rattle.sb_core.specs.Exactness.{IsExact}
use Rattle.sb_core.specs.Laws.{records_fed_after, records_fed_by}
use Rattle.sb_core.specs.Soundness.{IsSound}
use Rattle.sb_machine.specs.Steps.{Becomes}
use Rattle.sb_core.proofs.sound.AfterSound.{events-keep_sound}

module _ (plan : Shape) (is_plan : IsPlan plan) (old new : Moment) (event : Event) (sound : IsSound plan old) where
  pub step-sound : {T : Type 0} (r : Result T StepStop) → Becomes (Events.after plan old event) old new r → IsSound plan new
  step-sound (Ok x) b = (events-keep_sound plan is_plan old new event b sound).0
  step-sound (Err NotNow) b = subst (IsSound plan) (sym b.1) sound
  step-sound (Err Memory) b = subst (IsSound plan) (sym b) sound

  pub step-exact : {T : Type 0} (r : Result T StepStop) → Becomes (Events.after plan old event) old new r
      → OnOk r ((fed : Stream → List Record) → IsExact plan old fed → IsExact plan new (records_fed_after event fed))
  step-exact (Ok x) b = (events-keep_sound plan is_plan old new event b sound).1
  step-exact (Err stop) b = tt

-- one event more
pub run-more : (plan : Shape) (events : List Event) (event : Event) (old new next : Moment) → Events.run plan events old ≡ Some new → Events.after plan new event ≡ Some next → Events.run plan (events ++ event ∷ []) old ≡ Some next
run-more plan [] event old new next done more =
    ap (λ m. Events.after plan m event >>= Events.run plan []) (same_Some old new done) ∙ ap (λ (o : Option Moment). o >>= Events.run plan []) more
run-more plan (e ∷ events) event old new next done more =
    let a = bind_some (Events.after plan old e) (Events.run plan events) new done in
    ap (λ (o : Option Moment). o >>= Events.run plan (events ++ event ∷ [])) a.1 ∙ run-more plan events event a.0 new next a.2 more

pub records_fed_by-more : (events : List Event) (event : Event) (fed : Stream → List Record) → records_fed_by (events ++ event ∷ []) fed ≡ records_fed_after event (records_fed_by events fed)
records_fed_by-more [] event fed = refl
records_fed_by-more (e ∷ events) event fed = records_fed_by-more events event (records_fed_after e fed)
