-- Each event keeps a sound moment sound and exact, and so does a list of events.
use Rattle.sb_containers.specs.base.NumberLemmas.{bind_some}
use Rattle.sb_containers.specs.Choices
use Rattle.sb_core.specs.Events
use Rattle.sb_core.specs.MomentSteps
use Rattle.sb_core.specs.Moments
use Rattle.sb_core.proofs.sound.Orderly.{lawful_of, tidy_of}
use Rattle.std.proofs.Common.{◌≡◌, Bool, true, false, cond, eqb, List, [], ◌∷◌, Some, Option, sym, subst, ◌∙◌}
use Rattle.std.proofs.lemmas.Option.{same_Some}
use Rattle.sb_containers.specs.base.records.declared.item.Record.{Record}
use Rattle.sb_containers.specs.base.records.declared.item.Stream.{Stream}
use Rattle.sb_containers.specs.base.pipeline.Shapes.{Shape}
use Rattle.sb_core.specs.declared.moment.Moment.{Moment}
use Rattle.sb_core.specs.declared.event.Event.{Event}
use Rattle.sb_core.specs.declared.event.Event.TheVariants.{Arrive, Seal, Take, Deliver, Finish, Begin, Pass, End}
use Rattle.sb_containers.specs.base.pipeline.Plans.{IsPlan}
use Rattle.sb_containers.specs.base.records.Reading.{◌>>=◌}
use Rattle.sb_core.specs.Exactness.{IsExact}
use Rattle.sb_core.specs.Holdings.{IsHeld, IsCloseOf}
use Rattle.sb_core.specs.Soundness.{IsSound}
use Rattle.sb_core.specs.Laws.{EventsKeepSound, records_fed_after, records_fed_by}
use Rattle.sb_containers.proofs.Lists.{IsReordered-pulled}
use Rattle.sb_containers.proofs.LaneLaws.{All-pulled}
use Rattle.sb_core.proofs.exact.AfterExact.{events-keep_exact}
use Rattle.sb_core.proofs.parts.MadeSteps.{after-made}
use Rattle.sb_core.proofs.sound.PutSound.{arrive-sound, rows-sound, work-sound}
use Rattle.sb_core.proofs.sound.SealSound.{seal-sound, pass-sound}
use Rattle.sb_core.proofs.sound.EndSound.{take-sound, finish-sound, end-sound}
use Rattle.sb_core.proofs.sound.BeginSound.{begins-sound}

made-sound : (plan : Shape) → IsPlan plan → (m later : Moment) (event : Event) → MomentSteps.made plan m event ≡ Some later → IsSound plan m → IsSound plan later
made-sound plan is_plan m later (Arrive stream records) h sound = arrive-sound plan is_plan m later stream records h sound
made-sound plan is_plan m later (Seal stream mark) h sound = seal-sound plan is_plan m later stream mark h sound
made-sound plan is_plan m later (Take node lane number) h sound = take-sound plan is_plan m later (record { node = node; lane = lane }) number h sound
made-sound plan is_plan m later (Deliver node lane number) h sound = by_case (eqb number 0) h
  where
    rows : Choices.first_and_rest (Moments.is_close_of node lane) m.held >>= (λ q. MomentSteps.deliver_rows plan m q.0 q.1) ≡ Some later → IsSound plan later
    rows h =
        let a = bind_some (Choices.first_and_rest (Moments.is_close_of node lane) m.held) (λ q. MomentSteps.deliver_rows plan m q.0 q.1) later h in
        rows-sound plan is_plan m later sound a.0 (IsReordered-pulled (Moments.is_close_of node lane) m.held a.0 a.1) (All-pulled (IsHeld plan m) (Moments.is_close_of node lane) m.held a.0 a.1 (lawful_of sound).holds) (All-pulled (IsCloseOf plan m) (Moments.is_close_of node lane) m.held a.0 a.1 (tidy_of sound).closes) a.2

    work : Choices.first_and_rest (Moments.is_work node lane number) m.held >>= (λ q. MomentSteps.deliver_work plan m q.0 q.1) ≡ Some later → IsSound plan later
    work h =
        let a = bind_some (Choices.first_and_rest (Moments.is_work node lane number) m.held) (λ q. MomentSteps.deliver_work plan m q.0 q.1) later h in
        work-sound plan is_plan m later sound a.0 (IsReordered-pulled (Moments.is_work node lane number) m.held a.0 a.1) (All-pulled (IsHeld plan m) (Moments.is_work node lane number) m.held a.0 a.1 (lawful_of sound).holds) (All-pulled (IsCloseOf plan m) (Moments.is_work node lane number) m.held a.0 a.1 (tidy_of sound).closes) a.2

    by_case : (b : Bool) → cond {A = Option Moment} b (Choices.first_and_rest (Moments.is_close_of node lane) m.held >>= λ q. MomentSteps.deliver_rows plan m q.0 q.1) (Choices.first_and_rest (Moments.is_work node lane number) m.held >>= λ q. MomentSteps.deliver_work plan m q.0 q.1) ≡ Some later → IsSound plan later
    by_case true h = rows h
    by_case false h = work h
made-sound plan is_plan m later (Finish node lane number) h sound =
    let a = bind_some (Choices.first_and_rest (Moments.is_work node lane number) m.held) (λ q. MomentSteps.after_finish plan m q.0 q.1) later h in
    finish-sound plan is_plan m later sound a.0 (IsReordered-pulled (Moments.is_work node lane number) m.held a.0 a.1) (All-pulled (IsHeld plan m) (Moments.is_work node lane number) m.held a.0 a.1 (lawful_of sound).holds) (All-pulled (IsCloseOf plan m) (Moments.is_work node lane number) m.held a.0 a.1 (tidy_of sound).closes) a.2
made-sound plan is_plan m later (Begin node lane) h sound = begins-sound plan is_plan m later node lane h sound
made-sound plan is_plan m later (Pass node) h sound =
    let a = bind_some (Choices.first_and_rest (Moments.is_close node) m.held) (λ q. MomentSteps.after_pass plan m q.0 q.1) later h in
    pass-sound plan is_plan m later sound a.0 (IsReordered-pulled (Moments.is_close node) m.held a.0 a.1) (All-pulled (IsHeld plan m) (Moments.is_close node) m.held a.0 a.1 (lawful_of sound).holds) (All-pulled (IsCloseOf plan m) (Moments.is_close node) m.held a.0 a.1 (tidy_of sound).closes) a.2
made-sound plan is_plan m later (End node) h sound =
    let a = bind_some (Choices.first_and_rest (Moments.is_close node) m.held) (λ q. MomentSteps.after_end m q.0 q.1) later h in
    end-sound plan is_plan m later sound a.0 (IsReordered-pulled (Moments.is_close node) m.held a.0 a.1) (All-pulled (IsHeld plan m) (Moments.is_close node) m.held a.0 a.1 (lawful_of sound).holds) (All-pulled (IsCloseOf plan m) (Moments.is_close node) m.held a.0 a.1 (tidy_of sound).closes) a.2

pub events-keep_sound : EventsKeepSound
events-keep_sound plan is_plan m later event h sound =
    let then = made-sound plan is_plan m later event (sym (after-made plan m (lawful_of sound) event) ∙ h) sound in (then, λ fed exact. events-keep_exact plan is_plan m later fed event h (lawful_of sound) (lawful_of then) exact)

-- ---- a list of events
pub runs-keep : (plan : Shape) → IsPlan plan → (events : List Event) (m later : Moment) (fed : Stream → List Record) → Events.run plan events m ≡ Some later → IsSound plan m → IsExact plan m fed → IsSound plan later × IsExact plan later (records_fed_by events fed)
runs-keep plan is_plan [] m later fed h sound exact = let k : m ≡ later = same_Some m later h in subst (λ m. IsSound plan m × IsExact plan m fed) k (sound, exact)
runs-keep plan is_plan (e ∷ es) m later fed h sound exact =
    let a = bind_some (Events.after plan m e) (Events.run plan es) later h in
    let k = events-keep_sound plan is_plan m a.0 e a.1 sound in
    runs-keep plan is_plan es a.0 later (records_fed_after e fed) a.2 k.0 (k.1 fed exact)
