-- What is held may stand in any order.
use Rattle.sb_containers.specs.base.ElementLemmas.{every}
use Rattle.sb_containers.specs.Lanes
use Rattle.sb_core.specs.Moments
use Rattle.sb_core.proofs.sound.Orderly.{lawful_of, tidy_of, sound_of, IsLawful, IsTidy}
use Rattle.std.proofs.Common.{◌≡◌, ℕ, ◌+◌, ◌≤◌, Bool, true, cond, List, [], ◌∷◌, ◌++◌, sym, refl, ap, subst, ◌∙◌, arith}
use Rattle.std.specs.Prelude.{◌≢◌, IsPermutation, sum_by}
use Rattle.std.specs.List.{flat_map, slice_get, list_any, AllByRecursion}
use Rattle.std.proofs.lemmas.List.Sorted.{IsPermutation-to_front, sum_by-IsPermutation, All-permutation, IsPermutation-append_comm}
use Rattle.std.proofs.lemmas.List.Elements.{All-from_recursion, recursion_from_All}
use Rattle.sb_containers.specs.base.records.declared.item.Record.{Record}
use Rattle.sb_containers.specs.base.records.declared.item.Stream.{Stream}
use Rattle.sb_containers.specs.base.records.declared.item.Stream.TheVariants.{A, B}
use Rattle.sb_containers.specs.base.pipeline.Shapes.{Shape}
use Rattle.sb_core.specs.declared.moment.Moment.{Moment}
use Rattle.sb_core.specs.declared.event.Event.{Event}
use Rattle.sb_core.specs.declared.event.Event.TheVariants.{Arrive, Seal, Take, Deliver, Finish, Begin, Pass, End}
use Rattle.sb_core.specs.declared.held.Held.{Held}
use Rattle.sb_core.specs.declared.held.Held.TheVariants.{Work, Close}
use Rattle.sb_containers.specs.base.pipeline.Operators.{operator_at}
use Rattle.sb_core.specs.Moments.{with_held, node_at}
use Rattle.sb_core.specs.Exactness.{waiting_from, work_in, rows_left_in, rest, gives, IsExact}
use Rattle.sb_containers.specs.base.records.declared.element.KeptRec.{KeptRec}
use Rattle.sb_core.specs.Holdings.{IsHeld, is_unpassed, IsCloseOf}
use Rattle.sb_core.specs.Soundness.{IsOpenBelow, IsSound}
use Rattle.sb_core.specs.Laws.{NewAtTheHead, IdleByItsLanes, takes_up, HeldInAnyOrder, EventsAtTheHead, concerns, remains_of, records_fed_after}
use Rattle.sb_containers.specs.base.SumLemmas.{IsReordered, IsReordered-flat_map}
use Rattle.sb_core.proofs.exact.Gives.{gives-less, sum_by-rest}
use Rattle.sb_core.proofs.exact.Exactly.{Carries, carries-same, carried-exact}
use Rattle.sb_core.proofs.exact.Exactly.Moved.{Nothing}
use Rattle.sb_core.proofs.times.LawfulTimely.{lawful-timely}
use Rattle.sb_core.proofs.sound.HeldLists.{any_same}
use Rattle.sb_core.proofs.sound.AfterSound.{events-keep_sound}
use Rattle.sb_core.proofs.parts.ByParts.{head-left, took}
use Rattle.sb_core.proofs.parts.MadeSteps.{idle}
use Rattle.sb_core.proofs.lawful.HeldStill.{beside}

module _ (plan : Shape) (m : Moment) (held : List Held) (same : IsPermutation m.held held) where
  now : Moment
  now = with_held held m

  sums : (f : Held → ℕ) → sum_by f m.held ≡ sum_by f held
  sums f = sym (sum_by-IsPermutation f m.held held same)

  any_is : (p : Held → Bool) → list_any p held ≡ list_any p m.held
  any_is p = any_same p held m.held (sym (sums (λ h. cond (p h) 1 0)))

  each : (P : Held → Type 0) → AllByRecursion P m.held → AllByRecursion P held
  each P all = recursion_from_All P held (All-permutation P m.held held same (All-from_recursion P m.held all))

  close_same : (h : Held) → IsCloseOf plan m h → IsCloseOf plan (with_held held m) h
  close_same (Work k l epoch floor number records delivered) h = h
  close_same (Close k l epoch serial floor mark rows passed) h = h

  pub sound-permuted : IsSound plan m → IsSound plan (with_held held m)
  sound-permuted sound =
      (sound_of (record {
        lawful = record {
          nodes = lawful.nodes;
          lanes = lawful.lanes;
          one_lane = lawful.one_lane;
          holds = every (beside plan m held m.rows) held (each (IsHeld plan m) lawful.holds);
          one_close = λ k. omega (arith, sums (λ h. cond (Moments.is_close k h) 1 0), lawful.one_close k);
          closing_held = λ d lane h c. any_is (Moments.is_close_of d.node d.lane) ∙ lawful.closing_held d lane h c;
          below = λ k s is. let b = lawful.below k s is in record {
            further = b.further;
            lane = b.lane;
            there = b.there;
            as_many = λ u. b.as_many (sym (any_is (is_unpassed k)) ∙ u);
            as_passed = λ u. b.as_passed (sym (any_is (is_unpassed k)) ∙ u);
          };
          closings = lawful.closings;
          sources = lawful.sources;
        };
        tidy = record {
          bundle = tidy.bundle;
          lanes = tidy.lanes;
          numbers = tidy.numbers;
          outs = λ d lane h n. tidy.outs d lane h n ∙ sums (λ h. cond (Moments.is_work d.node d.lane n h) 1 0);
          open_source = tidy.open_source;
          open_below = λ k s lane is h. subst (λ b. AllByRecursion (λ c. Lanes.next_epoch lane ≤ c.epoch → IsOpenBelow (operator_at (slice_get plan.steps k)) (node_at m k).lanes b (Lanes.next_epoch lane) c.epoch c.floor) lane.conts) (sym (any_is (is_unpassed k))) (tidy.open_below k s lane is h);
          own_marks = tidy.own_marks;
          kept = tidy.kept;
          closes = every close_same held (each (IsCloseOf plan m) tidy.closes);
          sorted = tidy.sorted;
          written = tidy.written;
        };
      }))
    where
      lawful : IsLawful plan m
      lawful = (lawful_of sound)

      tidy : IsTidy plan m
      tidy = (tidy_of sound)

  -- each node has yet to give the same
  pub permuted-gives : (k : ℕ) (es fs : List KeptRec) → IsReordered es fs → IsReordered (gives plan m k es) (gives plan (with_held held m) k fs)
  permuted-gives k es fs h =
      gives-less (operator_at (slice_get plan.steps k)) k (node_at m k) (node_at m k) m.held held m.rows m.rows [] es fs
      (IsReordered-flat_map (rows_left_in k) m.held held sums)
      (λ f.
      let a : sum_by f (rest k (node_at m k) m.held es) ≡ _ = sum_by-rest f k (node_at m k) m.held es in
      let b : sum_by f (rest k (node_at m k) held fs) ≡ _ = sum_by-rest f k (node_at m k) held fs in
      let c : sum_by f (flat_map (work_in k) m.held) ≡ sum_by f (flat_map (work_in k) held) = IsReordered-flat_map (work_in k) m.held held sums f in
      a ∙ (λ i. (sum_by f (waiting_from 0 (node_at m k).lanes) + c i) + h f i) ∙ sym b)
      refl refl (λ _. refl) (λ _. refl)

  pub permuted-carries : Carries plan m (with_held held m) Nothing
  permuted-carries = carries-same plan m (with_held held m) (λ k es fs within in_time h. permuted-gives k es fs h) (λ coming ok. ok)

  pub exact-permuted : IsLawful plan m → (fed : Stream → List Record) → IsExact plan m fed → IsExact plan (with_held held m) fed
  exact-permuted lawful fed exact = carried-exact plan m (with_held held m) Nothing fed (lawful-timely plan m lawful) permuted-carries exact

pub held-in_any_order : HeldInAnyOrder
held-in_any_order plan m held same sound = (sound-permuted plan m held same sound, λ fed exact. exact-permuted plan m held same (lawful_of sound) fed exact)

-- only an arrival feeds
fed-same : (event : Event) (fed : Stream → List Record) → ((s : Stream) (records : List Record) → event ≢ Arrive s records) → records_fed_after event fed ≡ fed
fed-same (Arrive A records) fed no_arrival = absurd (no_arrival A records refl)
fed-same (Arrive B records) fed no_arrival = absurd (no_arrival B records refl)
fed-same (Seal stream mark) fed no_arrival = refl
fed-same (Take node lane number) fed no_arrival = refl
fed-same (Deliver node lane number) fed no_arrival = refl
fed-same (Finish node lane number) fed no_arrival = refl
fed-same (Begin node lane) fed no_arrival = refl
fed-same (Pass node) fed no_arrival = refl
fed-same (End node) fed no_arrival = refl

-- ---- an event of what is at the head
pub events-at_the_head : EventsAtTheHead
events-at_the_head plan is_plan m later event h rest c e sound =
    let k = events-keep_sound plan is_plan (with_held (h ∷ rest) m) later event e sound in
    let same : IsPermutation later.held (remains_of m.bundle event h ++ rest) = subst (λ l. IsPermutation l (remains_of m.bundle event h ++ rest)) (sym (head-left plan m later event h rest c e)) (IsPermutation-append_comm rest (remains_of m.bundle event h)) in
    let p = held-in_any_order plan later (remains_of m.bundle event h ++ rest) same k.0 in
    (p.0, λ fed exact. p.1 fed (subst (IsExact plan later) (fed-same event fed (λ s rs q. let z : concerns (Arrive s rs) h ≡ true = ap (λ e. concerns e h) (sym q) ∙ c in cc)) (k.1 fed exact)))

-- ---- what is new at the head
pub new-at_the_head : NewAtTheHead
new-at_the_head plan is_plan m later event t e sound =
    let k = events-keep_sound plan is_plan m later event e sound in
    let h = took plan m later event t e in
    let same : IsPermutation later.held (h.0 ∷ m.held) = subst (λ l. IsPermutation l (h.0 ∷ m.held)) (sym h.1) (IsPermutation-to_front m.held h.0) in
    let p = held-in_any_order plan later (h.0 ∷ m.held) same k.0 in
    (h.0, h.1, p.0, λ fed exact. p.1 fed (subst (IsExact plan later) (fed-same event fed (λ s rs q. let z : takes_up (Arrive s rs) ≡ true = ap takes_up (sym q) ∙ t in cc)) (k.1 fed exact)))

-- ---- the lanes tell
pub idle-by_its_lanes : IdleByItsLanes
idle-by_its_lanes plan m k sound calm = idle plan m (lawful_of sound) k calm
