-- At rest the sink has closed up to the low watermark.
use Rattle.std.proofs.Common.{◌≡◌, ℕ, suc, zero, ◌+◌, ◌≤◌, ◌<◌, cond, eqb, List, [], ◌∷◌, length, drop, false, Some, None, Option, sym, refl, ap, subst, ◌∙◌, arith, ⊎_elim, length-drop, inl, inr}
use Rattle.std.specs.Prelude.{◌⊎◌, ◌&&◌, min, is_some, count_by, sum_by}
use Rattle.std.specs.List.{slice_get, list_any, AllByRecursion}
use Rattle.std.proofs.lemmas.Bool.{eq-eqb, cases_lt}
use Rattle.std.proofs.lemmas.List.Sums.{sum_by-cons}
use Rattle.std.proofs.lemmas.Option.{same_Some, slice_get_cases, slice_get_within}
use Rattle.sb_containers.specs.base.records.declared.item.Stream.{Stream}
use Rattle.sb_containers.specs.base.records.declared.item.Stream.TheVariants.{A, B}
use Rattle.sb_containers.specs.base.pipeline.declared.transform.Down.{Down}
use Rattle.sb_containers.specs.base.pipeline.declared.transform.Step.{Step}
use Rattle.sb_containers.specs.base.pipeline.Shapes.{Shape, source}
use Rattle.sb_containers.specs.base.pipeline.Operators.{Operator, operator_at, lanes_of}
use Rattle.sb_containers.specs.base.pipeline.Operators.Operator.{ParDo, Windowed, Sink}
use Rattle.sb_containers.specs.base.pipeline.Operators.WindowOperator.{Aggregated, Sessions, Joined}
use Rattle.sb_containers.specs.base.pipeline.Plans.{IsPlace, IsPlan}
use Rattle.sb_containers.specs.base.FeedingLemmas as Feeding
use Rattle.sb_containers.specs.base.StepLemmas.{place-at}
use Rattle.sb_containers.specs.declared.container.Cont.{Cont}
use Rattle.sb_containers.specs.declared.container.CoreLane.{CoreLane}
use Rattle.sb_core.specs.declared.moment.Moment.{Moment}
use Rattle.sb_core.specs.Bounds.{bound_at}
use Rattle.sb_containers.specs.Choices.{is_empty}
use Rattle.sb_containers.specs.Lanes.{next_floor, closable}
use Rattle.sb_containers.specs.LaneOrder.{IsLane, IsSealed, AreOpen, AreContainers}
use Rattle.sb_containers.specs.Marks.{least_begun_mark, first_is_closing, last_of_first}
use Rattle.sb_core.specs.Moments.{is_work, lane_at, node_at, floor_of, floor_at}
use Rattle.sb_core.specs.Holdings.{is_unpassed}
use Rattle.sb_core.specs.Soundness.{out_of, IsSound}
use Rattle.sb_core.specs.Laws.{written_to}
use Rattle.sb_core.specs.Rest.{IsAtRest, ClosesLow, floor_where}
use Rattle.sb_core.proofs.sound.HeldLists.{every_both}
use Rattle.sb_containers.proofs.Begun.{begun_mark, next_floor_is, closed_least}
use Rattle.sb_core.proofs.sound.Orderly.{lawful_of}
use Rattle.sb_core.proofs.times.LawfulTimely.{lane_of, of_node}

-- ---- one lane
-- where nothing waits or is out and the first container may not close, each container is open
module _ (bound : ℕ) (lane : CoreLane) (ok : IsLane bound lane) (stuck : closable lane.ended lane.conts ≡ None) (free : AllByRecursion (λ c. (c.waiting ≡ []) × (c.out ≡ [])) lane.conts) where
  may_close : (c : Cont) (cs : List Cont) (e f mark : ℕ) → IsSealed bound e f mark c → c.waiting ≡ [] → c.out ≡ [] → closable e (c ∷ cs) ≡ Some c
  may_close c cs e f mark is waits outs =
      (λ i. cond (eq-eqb c.epoch e is.epoch_is i && (is_some (is.mark_is i) && (is_empty (waits i) && is_empty (outs i)))) (Some c) None)

  none_sealed : drop lane.ended lane.marks ≡ []
  none_sealed = go (drop lane.ended lane.marks) lane.conts ok.containers stuck free
    where
      go : (ms : List ℕ) (cs : List Cont) → AreContainers bound lane.ended (last_of_first lane.ended lane.marks) ms cs → closable lane.ended cs ≡ None → AllByRecursion (λ c. (c.waiting ≡ []) × (c.out ≡ [])) cs → ms ≡ []
      go [] cs are stop all = refl
      go (x ∷ ms) [] are stop all = absurd are
      go (x ∷ ms) (c ∷ cs) are stop all =
          let k : Some c ≡ None = sym (may_close c cs lane.ended (last_of_first lane.ended lane.marks) x are.0 all.0.0 all.0.1) ∙ stop in cc

  pub all_ended : lane.ended ≡ length lane.marks
  all_ended = let k : length (drop lane.ended lane.marks) ≡ 0 = ap length none_sealed in omega (arith, length-drop lane.ended lane.marks, ok.ended_in)

  pub opened : AreOpen bound lane.ended (last_of_first lane.ended lane.marks) lane.ended (last_of_first lane.ended lane.marks) lane.conts
  opened = subst (λ ms. AreContainers bound lane.ended (last_of_first lane.ended lane.marks) ms lane.conts) none_sealed ok.containers

  not_closing : first_is_closing lane.conts ≡ false
  not_closing = go lane.conts opened
    where
      go : (cs : List Cont) → AreOpen bound lane.ended (last_of_first lane.ended lane.marks) lane.ended (last_of_first lane.ended lane.marks) cs → first_is_closing cs ≡ false
      go [] are = refl
      go (c ∷ cs) are = are.0.not_closing

  pub begun_all : begun_mark lane ≡ next_floor lane
  begun_all = ap (λ b. last_of_first (cond b (lane.ended + 1) lane.ended) lane.marks) not_closing ∙ ap (λ n. last_of_first n lane.marks) all_ended ∙ sym (next_floor_is lane)

-- where no number is out, nothing is
none_out : (cs : List Cont) → ((n : ℕ) → sum_by (out_of n) cs ≡ 0) → AllByRecursion (λ c. c.out ≡ []) cs
none_out [] none = tt
none_out (c ∷ cs) none = (of_cont c.out (λ n. omega (arith, sum_by-cons (out_of n) c cs, none n)), none_out cs (λ n. omega (arith, sum_by-cons (out_of n) c cs, none n)))
  where
    of_cont : (ns : List ℕ) → ((n : ℕ) → count_by (λ x. eqb x n) ns ≡ 0) → ns ≡ []
    of_cont [] none = refl
    of_cont (n ∷ ns) none =
        let a : cond (eqb n n) 1 0 + count_by (λ x. eqb x n) ns ≡ 0 = sym (sum_by-cons (λ x. cond (eqb x n) 1 0) n ns) ∙ none n in
        let b : cond {A = ℕ} (eqb n n) 1 0 ≡ 1 = ap (λ b. cond {A = ℕ} b 1 0) (eq-eqb n n refl) in
        absurd (omega (arith, a, b))

-- ---- the lanes of a node
-- the least is one of them
closed_one : (lanes : List CoreLane) → 1 ≤ length lanes → (l : ℕ) × (lane : CoreLane) × (slice_get lanes l ≡ Some lane) × (begun_mark lane ≡ least_begun_mark lanes)
closed_one [] some = absurd (omega (arith, some))
closed_one (x ∷ []) some = (zero, x, refl, refl)
closed_one (x ∷ y ∷ lanes) some =
    let r : (l : ℕ) × (lane : CoreLane) × (slice_get (y ∷ lanes) l ≡ Some lane) × (begun_mark lane ≡ least_begun_mark (y ∷ lanes)) = closed_one (y ∷ lanes) (omega arith) in
    ⊎_elim
    (λ h. (zero, x, refl, omega (arith, h)))
    (λ h. (suc r.0, r.1, r.2, omega (arith, h, r.3)))
    (cases_lt (begun_mark x) (least_begun_mark (y ∷ lanes)))

some_lane : (o : Operator) → 1 ≤ lanes_of o
some_lane (ParDo op) = omega arith
some_lane (Windowed (Aggregated agg windows)) = omega arith
some_lane (Windowed (Sessions agg gap)) = omega arith
some_lane (Windowed (Joined combine windows)) = omega arith
some_lane Sink = omega arith

-- a lane of a node lies in a place of the plan
pub in_place : (plan : Shape) (m : Moment) → IsSound plan m → (k l : ℕ) (lane : CoreLane) → k ≤ length plan.steps → slice_get (node_at m k).lanes l ≡ Some lane → IsPlace plan.steps (record { node = k; lane = l })
in_place plan m sound k l lane b h = (b, omega (arith, sound.lanes_there k b, slice_get_within (node_at m k).lanes l lane h))

-- ---- the moment
module _ (plan : Shape) (is_plan : IsPlan plan) (m : Moment) (sound : IsSound plan m) (rest : IsAtRest m) where
  pub free : (d : Down) (lane : CoreLane) → lane_at m d ≡ Some lane → AllByRecursion (λ c. (c.waiting ≡ []) × (c.out ≡ [])) lane.conts
  free d lane at =
      every_both (λ c w o. (w, o)) lane.conts (rest.none_waits d lane at) (none_out lane.conts (λ n. sound.outs d lane at n ∙ ap (count_by (is_work d.node d.lane n)) rest.none_held))

  up_to : (d : Down) (lane : CoreLane) → lane_at m d ≡ Some lane → begun_mark lane ≡ floor_at m d
  up_to d lane at = begun_all (bound_at plan d.node) lane (sound.lanes d lane at) (rest.none_closes d lane at) (free d lane at) ∙ sym (ap floor_of at)

  passed_on : (k : ℕ) (s : Step) → slice_get plan.steps k ≡ Some s → floor_at m s.down ≡ least_begun_mark (node_at m k).lanes
  passed_on k s is = (sound.below k s is).as_passed (ap (list_any (is_unpassed k)) rest.none_held)

  -- each node has closed up to the floor of a stream's lane
  pub from_one : (k : ℕ) → k ≤ length plan.steps → (s : Stream) × (d : Down) × (source plan s ≡ Some d) × (floor_at m d ≡ least_begun_mark (node_at m k).lanes)
  from_one k b = by_bound k k (omega arith) b
    where
      Leads : ℕ → Type 0
      Leads k = (s : Stream) × (d : Down) × (source plan s ≡ Some d) × (floor_at m d ≡ least_begun_mark (node_at m k).lanes)

      step : (k : ℕ) → k ≤ length plan.steps → ((j : ℕ) → j < k → Leads j) → Leads k
      step k b before =
          let one = closed_one (node_at m k).lanes (omega (arith, sound.lanes_there k b, some_lane (operator_at (slice_get plan.steps k)))) in
          let place : Down = record { node = k; lane = one.0 } in
          let at : lane_at m place ≡ Some one.1 = of_node plan m (lawful_of sound) k one.0 one.1 one.2 in
          let floor : floor_at m place ≡ least_begun_mark (node_at m k).lanes = sym (up_to place one.1 at) ∙ one.3 in
          ⊎_elim
          (λ s. (s.0, place, s.1, floor))
          (λ s. let lower : s.0 < k = subst (λ (d : Down). s.0 < d.node) s.3 (is_plan.further s.0 s.1 s.2) in
          let r : Leads s.0 = before s.0 lower in
          (r.0, r.1, r.2, r.3 ∙ sym (passed_on s.0 s.1 s.2) ∙ ap (floor_at m) s.3 ∙ floor))
          (Feeding.fed plan is_plan place (in_place plan m sound k one.0 one.1 b one.2))

      by_bound : (bound k : ℕ) → k ≤ bound → k ≤ length plan.steps → Leads k
      by_bound zero k low b = step k b (λ j h. absurd (omega arith))
      by_bound (suc bound) k low b = step k b (λ j h. by_bound bound j (omega arith) (omega arith))

  -- a node has closed no further than its lanes' floors
  no_further : (d : Down) (lane : CoreLane) → lane_at m d ≡ Some lane → least_begun_mark (node_at m d.node).lanes ≤ floor_at m d
  no_further d lane at =
      subst (λ n. least_begun_mark (node_at m d.node).lanes ≤ n) (up_to d lane at) (closed_least (node_at m d.node).lanes d.lane lane (lane_of plan m (lawful_of sound) d.node d.lane lane at))

  -- the sink has closed no further than any node
  behind : (k : ℕ) → k ≤ length plan.steps → written_to plan m ≤ least_begun_mark (node_at m k).lanes
  behind k b = go (length plan.steps) k (omega arith) b
    where
      at_sink : (k : ℕ) → length plan.steps ≡ k → written_to plan m ≤ least_begun_mark (node_at m k).lanes
      at_sink k e = subst (λ n. written_to plan m ≤ least_begun_mark (node_at m n).lanes) e (omega arith)

      go : (left k : ℕ) → length plan.steps ≤ k + left → k ≤ length plan.steps → written_to plan m ≤ least_begun_mark (node_at m k).lanes
      go zero k far b = at_sink k (omega (arith, far, b))
      go (suc left) k far b = ⊎_elim
          (λ s. let under = sound.below k s.0 s.2 in
          let place : IsPlace plan.steps s.0.down = place-at plan is_plan k s.0 s.2 in
          let next : written_to plan m ≤ least_begun_mark (node_at m s.0.down.node).lanes = go left s.0.down.node (omega (arith, far, under.further)) place.0 in
          let low : least_begun_mark (node_at m s.0.down.node).lanes ≤ floor_at m s.0.down = no_further s.0.down under.lane under.there in
          omega (arith, next, low, passed_on k s.0 s.2))
          (λ h. at_sink k (omega (arith, h.0, b)))
          (slice_get_cases plan.steps k).1

-- the mark is at most those of the streams' lanes, and is one of them
least_is : (m : Moment) (mark : ℕ) (a b : Option Down) → ((d : Down) → a ≡ Some d → mark ≤ floor_at m d) → ((d : Down) → b ≡ Some d → mark ≤ floor_at m d)
    → ((d : Down) × (a ≡ Some d) × (floor_at m d ≡ mark)) ⊎ ((d : Down) × (b ≡ Some d) × (floor_at m d ≡ mark))
    → mark ≡ cond (is_some a) (cond (is_some b) (min (floor_where m a) (floor_where m b)) (floor_where m a)) (cond (is_some b) (floor_where m b) 0)
least_is m mark None None low_a low_b one = ⊎_elim (λ e. let k : None ≡ Some e.0 = e.1 in cc) (λ e. let k : None ≡ Some e.0 = e.1 in cc) one
least_is m mark (Some x) None low_a low_b one = ⊎_elim (λ e. sym (ap (floor_at m) (same_Some x e.0 e.1) ∙ e.2)) (λ e. let k : None ≡ Some e.0 = e.1 in cc) one
least_is m mark None (Some y) low_a low_b one = ⊎_elim (λ e. let k : None ≡ Some e.0 = e.1 in cc) (λ e. sym (ap (floor_at m) (same_Some y e.0 e.1) ∙ e.2)) one
least_is m mark (Some x) (Some y) low_a low_b one =
    let a : mark ≤ floor_at m x = low_a x refl in
    let b : mark ≤ floor_at m y = low_b y refl in
    ⊎_elim
    (λ e. let s : floor_at m x ≡ mark = ap (floor_at m) (same_Some x e.0 e.1) ∙ e.2 in omega (arith, a, b, s))
    (λ e. let s : floor_at m y ≡ mark = ap (floor_at m) (same_Some y e.0 e.1) ∙ e.2 in omega (arith, a, b, s)) one

pub closes-low : ClosesLow
closes-low plan is_plan m sound rest =
    let one = from_one plan is_plan m sound rest (length plan.steps) (omega arith) in
    least_is m (written_to plan m) plan.source_a plan.source_b (least A) (least B) (by_stream one.0 one.1 one.2 one.3)
  where
    least : (s : Stream) (d : Down) → source plan s ≡ Some d → written_to plan m ≤ floor_at m d
    least s d is =
        let there = sound.sources s d is in
        omega (arith, behind plan is_plan m sound rest d.node (Feeding.sources plan is_plan s d is).0, no_further plan is_plan m sound rest d there.0 there.1)

    by_stream : (s : Stream) (d : Down) → source plan s ≡ Some d → floor_at m d ≡ written_to plan m
        → ((d : Down) × (plan.source_a ≡ Some d) × (floor_at m d ≡ written_to plan m)) ⊎ ((d : Down) × (plan.source_b ≡ Some d) × (floor_at m d ≡ written_to plan m))
    by_stream A d is same = inl (d, is, same)
    by_stream B d is same = inr (d, is, same)
