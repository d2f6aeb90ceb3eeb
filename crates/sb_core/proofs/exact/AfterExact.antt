-- Each event moves what the nodes of a lawful moment have yet to give, and keeps it exact.
use Rattle.sb_containers.specs.base.NumberLemmas.{bind_some}
use Rattle.sb_containers.specs.Choices
use Rattle.sb_core.specs.Events
use Rattle.sb_core.specs.MomentSteps
use Rattle.sb_containers.specs.Lanes
use Rattle.sb_containers.specs.Marks
use Rattle.sb_core.specs.Moments
use Rattle.std.proofs.Common.{◌≡◌, ℕ, suc, zero, ◌+◌, ◌≤◌, Bool, true, false, not, cond, eqb, List, [], ◌∷◌, length, Some, sym, refl, ap, subst, ◌∙◌, arith}
use Rattle.std.specs.Prelude.{◌&&◌, ◌||◌, sum_by}
use Rattle.std.specs.List.{slice_get, list_any, AllByRecursion}
use Rattle.std.proofs.lemmas.Bool.{eqb-true, not-true}
use Rattle.std.proofs.lemmas.List.Sums.{sum_by-cons}
use Rattle.std.proofs.lemmas.Option.{same_Some}
use Rattle.sb_containers.specs.base.records.declared.item.Record.{Record}
use Rattle.sb_containers.specs.base.records.declared.item.Stream.{Stream}
use Rattle.sb_containers.specs.base.records.declared.item.Stream.TheVariants.{A, B}
use Rattle.sb_containers.specs.declared.container.CoreLane.{CoreLane}
use Rattle.sb_core.specs.declared.moment.Node.{Node}
use Rattle.sb_containers.specs.base.pipeline.declared.transform.Step.{Step}
use Rattle.sb_containers.specs.base.pipeline.Shapes.{Shape, source}
use Rattle.sb_core.specs.declared.moment.Moment.{Moment}
use Rattle.sb_core.specs.declared.held.Held.{Held}
use Rattle.sb_core.specs.declared.held.Held.TheVariants.{Work, Close}
use Rattle.sb_core.specs.declared.event.Event.{Event}
use Rattle.sb_core.specs.declared.event.Event.TheVariants.{Arrive, Seal, Take, Deliver, Finish, Begin, Pass, End}
use Rattle.sb_containers.specs.base.pipeline.Operators.{operator_at}
use Rattle.sb_containers.specs.base.records.Reading.{◌>>=◌}
use Rattle.sb_containers.specs.Marks.{begun_count}
use Rattle.sb_core.specs.Moments.{node_at, epoch_at}
use Rattle.sb_core.specs.Exactness.{IsExact}
use Rattle.sb_core.specs.Bounds.{bound_at}
use Rattle.sb_core.specs.Closings.{is_pardo}
use Rattle.sb_core.specs.Holdings.{IsWork, IsHeld, is_unpassed}
use Rattle.sb_core.proofs.sound.Orderly.{IsLawful}
use Rattle.sb_core.specs.Laws.{concerns, records_fed_after}
use Rattle.sb_containers.proofs.Lists.{cond_is_some, IsReordered-pulled}
use Rattle.sb_containers.proofs.LaneLaws.{All-pulled}
use Rattle.sb_core.proofs.exact.Nodes.{node_at-same, node_at-set_same}
use Rattle.sb_containers.proofs.Begun.{work_epoch}
use Rattle.sb_core.proofs.times.LawfulTimely.{lane_of, lawful-timely}
use Rattle.sb_containers.specs.base.pipeline.Plans.{IsPlan}
use Rattle.sb_core.proofs.exact.EventExact.{CarriesFrom, take-carries, arrive-carries, finish-carries, begin-carries, seal-carries, rows-carries, pass-carries, end-carries, work-carries, closed_rises}
use Rattle.sb_core.proofs.exact.Exactly.{Carries, carried-exact}
use Rattle.sb_core.proofs.exact.Exactly.Moved.{Nothing, Fed}
use Rattle.sb_containers.specs.base.pipeline.declared.transform.Down.{Down}
use Rattle.sb_core.proofs.lawful.BeginLawful.{closable-is, rises}
use Rattle.sb_core.proofs.parts.MadeSteps.{after-made}

-- ---- a Work of a ParDo is of an epoch that is not sealed below
pub lone : (lanes : List CoreLane) (l : ℕ) (lane : CoreLane) → length lanes ≡ 1 → slice_get lanes l ≡ Some lane → sum_by begun_count lanes ≡ begun_count lane
lone [] l lane one h = cc
lone (x ∷ []) zero lane one h = let k : x ≡ lane = cc in sum_by-cons begun_count x [] ∙ ap (λ n. n + 0) (ap begun_count k) ∙ omega arith
lone (x ∷ []) (suc l) lane one h = cc
lone (x ∷ y ∷ lanes) l lane one h = absurd (omega arith)

module _ (plan : Shape) (m : Moment) (lawful : IsLawful plan m) where
  pub unpassed_under : (k : ℕ) (s : Step) → slice_get plan.steps k ≡ Some s → (hs : List Held) → AllByRecursion (IsHeld plan m) hs → list_any (is_unpassed k) hs ≡ true → epoch_at m s.down + 1 ≤ (node_at m k).closings
  unpassed_under k s is [] all h = cc
  unpassed_under k s is (Work n l epoch floor number records delivered ∷ hs) all h = unpassed_under k s is hs all.1 h
  unpassed_under k s is (Close n l epoch serial floor mark rows passed ∷ hs) all h = by_case (eqb n k) passed refl refl h (λ z. unpassed_under k s is hs all.1 z)
    where
      by_case : (a p : Bool) → eqb n k ≡ a → passed ≡ p → ((a && not p) || list_any (is_unpassed k) hs) ≡ true → (list_any (is_unpassed k) hs ≡ true → epoch_at m s.down + 1 ≤ (node_at m k).closings) → epoch_at m s.down + 1 ≤ (node_at m k).closings
      by_case true false e f h ih =
          let nk : n ≡ k = eqb-true n k e in
          let a : epoch_at m s.down ≡ serial = all.0.next_under f s (ap (slice_get plan.steps) nk ∙ is) in
          let b : serial + 1 ≡ (node_at m k).closings = all.0.serial_is ∙ ap (λ k. (node_at m k).closings) nk in
          omega arith
      by_case true true e f h ih = ih h
      by_case false p e f h ih = ih h

  pub not_sealed : (y l epoch floor number : ℕ) (records : List Record) (delivered : Bool) (s : Step) → IsWork plan m y l epoch floor number records delivered → is_pardo (operator_at (slice_get plan.steps y)) ≡ true → slice_get plan.steps y ≡ Some s → epoch_at m s.down ≤ epoch
  not_sealed y l epoch floor number records delivered s w pardo is =
      let a : begun_count w.lane ≤ epoch = work_epoch (bound_at plan y) w.lane (lawful.lanes (record { node = y; lane = l }) w.lane w.there) epoch number w.cont w.of_epoch w.is_out in
      let b : (node_at m y).closings ≡ begun_count w.lane = lawful.closings y ∙ lone (node_at m y).lanes l w.lane (lawful.one_lane y pardo) (lane_of plan m lawful y l w.lane w.there) in
      let c : epoch_at m s.down ≤ (node_at m y).closings = by_case (list_any (is_unpassed y) m.held) refl in
      omega arith
    where
      by_case : (b : Bool) → list_any (is_unpassed y) m.held ≡ b → epoch_at m s.down ≤ (node_at m y).closings
      by_case true e = omega (arith, unpassed_under y s is m.held lawful.holds e)
      by_case false e = omega (arith, (lawful.below y s is).as_many e)

-- ---- all events
-- what each event moves
abbrev pub EventCarries : Shape → Moment → Moment → Event → Type 0
EventCarries plan m later (Arrive stream records) = (d : Down) × (source plan stream ≡ Some d) × Carries plan m later (Fed stream d records)
EventCarries plan m later (Seal stream mark) = Carries plan m later Nothing
EventCarries plan m later (Take node lane number) = Carries plan m later Nothing
EventCarries plan m later (Deliver node lane number) = (q : Held × List Held) × (Choices.first_and_rest (concerns (Deliver node lane number)) m.held ≡ Some q) × CarriesFrom plan m later q.0
EventCarries plan m later (Finish node lane number) = Carries plan m later Nothing
EventCarries plan m later (Begin node lane) = Carries plan m later Nothing
EventCarries plan m later (Pass node) = Carries plan m later Nothing
EventCarries plan m later (End node) = Carries plan m later Nothing

made-carries : (plan : Shape) → IsPlan plan → (m later : Moment) (event : Event) → MomentSteps.made plan m event ≡ Some later → IsLawful plan m → IsLawful plan later → EventCarries plan m later event
made-carries plan is_plan m later (Arrive stream records) h lawful after = arrive-carries plan m later stream records h lawful
made-carries plan is_plan m later (Seal stream mark) h lawful after = seal-carries plan m later stream mark h lawful
made-carries plan is_plan m later (Take node lane number) h lawful after = take-carries plan m later (record { node = node; lane = lane }) number h
made-carries plan is_plan m later (Deliver node lane number) h lawful after = by_case (eqb number 0) h
  where
    rows : (Choices.first_and_rest (Moments.is_close_of node lane) m.held >>= λ q. MomentSteps.deliver_rows plan m q.0 q.1) ≡ Some later → (q : Held × List Held) × (Choices.first_and_rest (Moments.is_close_of node lane) m.held ≡ Some q) × CarriesFrom plan m later q.0
    rows h =
        let a = bind_some (Choices.first_and_rest (Moments.is_close_of node lane) m.held) (λ q. MomentSteps.deliver_rows plan m q.0 q.1) later h in
        (a.0, a.1, rows-carries plan m later lawful a.0 (IsReordered-pulled (Moments.is_close_of node lane) m.held a.0 a.1) (All-pulled (IsHeld plan m) (Moments.is_close_of node lane) m.held a.0 a.1 lawful.holds).0 a.2)

    work : (Choices.first_and_rest (Moments.is_work node lane number) m.held >>= λ q. MomentSteps.deliver_work plan m q.0 q.1) ≡ Some later → (q : Held × List Held) × (Choices.first_and_rest (Moments.is_work node lane number) m.held ≡ Some q) × CarriesFrom plan m later q.0
    work h =
        let a = bind_some (Choices.first_and_rest (Moments.is_work node lane number) m.held) (λ q. MomentSteps.deliver_work plan m q.0 q.1) later h in
        let held = (All-pulled (IsHeld plan m) (Moments.is_work node lane number) m.held a.0 a.1 lawful.holds).0 in (
          a.0,
          a.1,
          work-carries plan m later lawful a.0 (IsReordered-pulled (Moments.is_work node lane number) m.held a.0 a.1) held a.2
              (λ y l epoch floor n records s e is pardo. not_sealed plan m lawful y l epoch floor n records false s (subst (IsHeld plan m) e held) pardo is),
        )

    by_case : (b : Bool) → cond b (Choices.first_and_rest (Moments.is_close_of node lane) m.held >>= λ q. MomentSteps.deliver_rows plan m q.0 q.1) (Choices.first_and_rest (Moments.is_work node lane number) m.held >>= λ q. MomentSteps.deliver_work plan m q.0 q.1) ≡ Some later
        → (q : Held × List Held) × (Choices.first_and_rest (λ h. cond b (Moments.is_close_of node lane h) (Moments.is_work node lane number h)) m.held ≡ Some q) × CarriesFrom plan m later q.0
    by_case true h = rows h
    by_case false h = work h
made-carries plan is_plan m later (Finish node lane number) h lawful after = finish-carries plan m later node lane number h lawful
made-carries plan is_plan m later (Begin node lane) h lawful after = begin-carries plan is_plan m later node lane h lawful after (mark_rises h)
  where
    mark_rises : MomentSteps.after_begin plan m node lane ≡ Some later → closed_rises plan m later node
    mark_rises h =
        let a = bind_some (slice_get m.nodes node) _ later h in
        let b = bind_some (slice_get a.0.lanes lane) _ later a.2 in
        let c = bind_some (Lanes.closable b.0.ended b.0.conts) _ later b.2 in
        let d = cond_is_some (not (list_any (Moments.is_close node) m.held)) _ later c.2 in
        let is = same_Some _ _ d.1 in
        let up = rises plan m node lane a.0 b.0 c.0 a.1 b.1 (closable-is b.0.ended b.0.conts c.0 c.1) (not-true (list_any (Moments.is_close node) m.held) d.0) lawful in
        let before = ap (λ (x : Node). Marks.least_begun_mark x.lanes) (node_at-same m node a.0 a.0 a.1) in
        let then = ap (λ (x : Moment). Marks.least_begun_mark (node_at x node).lanes) (sym is) ∙ ap (λ (x : Node). Marks.least_begun_mark x.lanes) (node_at-set_same m node a.0 _ a.1) in
        subst (λ x. x ≤ Marks.least_begun_mark (node_at later node).lanes) (sym before) (subst (λ x. Marks.least_begun_mark a.0.lanes ≤ x) (sym then) up)
made-carries plan is_plan m later (Pass node) h lawful after =
    let a = bind_some (Choices.first_and_rest (Moments.is_close node) m.held) (λ q. MomentSteps.after_pass plan m q.0 q.1) later h in
    pass-carries plan m later lawful a.0 (IsReordered-pulled (Moments.is_close node) m.held a.0 a.1) (All-pulled (IsHeld plan m) (Moments.is_close node) m.held a.0 a.1 lawful.holds).0 a.2
made-carries plan is_plan m later (End node) h lawful after =
    let a = bind_some (Choices.first_and_rest (Moments.is_close node) m.held) (λ q. MomentSteps.after_end m q.0 q.1) later h in
    end-carries plan m later lawful a.0 (IsReordered-pulled (Moments.is_close node) m.held a.0 a.1) (All-pulled (IsHeld plan m) (Moments.is_close node) m.held a.0 a.1 lawful.holds).0 a.2

pub events-carry : (plan : Shape) → IsPlan plan → (m later : Moment) (event : Event) → Events.after plan m event ≡ Some later → IsLawful plan m → IsLawful plan later → EventCarries plan m later event
events-carry plan is_plan m later event h lawful after = made-carries plan is_plan m later event (sym (after-made plan m lawful event) ∙ h) lawful after

-- each event between lawful moments keeps an exact moment exact
abbrev EventsKeepExact : Type 0
EventsKeepExact =
    (plan : Shape) → IsPlan plan → (m later : Moment) (fed : Stream → List Record) (event : Event) → Events.after plan m event ≡ Some later
    → IsLawful plan m → IsLawful plan later → IsExact plan m fed → IsExact plan later (records_fed_after event fed)

pub events-keep_exact : EventsKeepExact
events-keep_exact plan is_plan m later fed event h lawful after exact = by_event event (events-carry plan is_plan m later event h lawful after)
  where
    by_event : (event : Event) → EventCarries plan m later event → IsExact plan later (records_fed_after event fed)
    by_event (Arrive A records) c = carried-exact plan m later (Fed A c.0 records) fed (lawful-timely plan m lawful) c.2 exact
    by_event (Arrive B records) c = carried-exact plan m later (Fed B c.0 records) fed (lawful-timely plan m lawful) c.2 exact
    by_event (Seal stream mark) c = carried-exact plan m later Nothing fed (lawful-timely plan m lawful) c exact
    by_event (Take node lane number) c = carried-exact plan m later Nothing fed (lawful-timely plan m lawful) c exact
    by_event (Deliver node lane number) c = carried-exact plan m later _ fed (lawful-timely plan m lawful) c.2.2 exact
    by_event (Finish node lane number) c = carried-exact plan m later Nothing fed (lawful-timely plan m lawful) c exact
    by_event (Begin node lane) c = carried-exact plan m later Nothing fed (lawful-timely plan m lawful) c exact
    by_event (Pass node) c = carried-exact plan m later Nothing fed (lawful-timely plan m lawful) c exact
    by_event (End node) c = carried-exact plan m later Nothing fed (lawful-timely plan m lawful) c exact
