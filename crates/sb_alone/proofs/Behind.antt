-- No node has closed further than the lanes of the streams that feed it are sealed.
use Rattle.std.proofs.Common.{◌≡◌, ℕ, suc, zero, ◌≤◌, ◌<◌, Bool, true, false, not, eqb, List, [], ◌∷◌, length, Some, refl, ap, subst, ◌∙◌, arith, ⊎_elim}
use Rattle.std.specs.Prelude.{◌&&◌, ◌||◌}
use Rattle.std.specs.List.{slice_get, list_any, AllByRecursion}
use Rattle.std.proofs.lemmas.Bool.{eqb-true}
use Rattle.sb_feeds.specs.base.records.declared.item.Stream.{Stream}
use Rattle.sb_feeds.specs.base.pipeline.declared.transform.Down.{Down}
use Rattle.sb_feeds.specs.base.pipeline.declared.transform.Step.{Step}
use Rattle.sb_feeds.specs.base.pipeline.Operators.{operator_at, Operator, lanes_of}
use Rattle.sb_feeds.specs.base.pipeline.Plans.{IsPlan}
use Rattle.sb_feeds.specs.base.pipeline.Shapes.{Shape, source}
use Rattle.sb_feeds.proofs.base.pipeline.Feeding
use Rattle.sb_hand.specs.core.declared.held.Held.{Held}
use Rattle.sb_hand.specs.core.declared.held.Held.TheVariants.{Work, Close}
use Rattle.sb_hand.specs.core.containers.declared.container.CoreLane.{CoreLane}
use Rattle.sb_hand.specs.core.declared.moment.Moment.{Moment}
use Rattle.sb_hand.specs.core.Bounds.{bound_at}
use Rattle.sb_hand.specs.core.Holdings.{IsHeld, is_unpassed}
use Rattle.sb_hand.specs.core.Laws.{written_to}
use Rattle.sb_hand.specs.core.containers.Marks.{least_begun_mark}
use Rattle.sb_hand.specs.core.Moments.{floor_at, floor_of, lane_at, node_at}
use Rattle.sb_hand.specs.core.Soundness.{IsSound}
use Rattle.sb_hand.proofs.core.ends.AtRest.{in_place}
use Rattle.sb_feeds.specs.base.pipeline.Operators.Operator.{ParDo, Windowed, Sink}
use Rattle.sb_feeds.specs.base.pipeline.Operators.WindowOperator.{Aggregated, Sessions, Joined}
use Rattle.sb_hand.proofs.core.containers.Begun.{begun_behind, closed_least}
use Rattle.sb_hand.proofs.core.times.LawfulTimely.{lane_of, of_node}
use Rattle.sb_hand.proofs.core.sound.Orderly.{lawful_of}

some_lane : (o : Operator) → 1 ≤ lanes_of o
some_lane (ParDo op) = omega arith
some_lane (Windowed (Aggregated agg windows)) = omega arith
some_lane (Windowed (Sessions agg gap)) = omega arith
some_lane (Windowed (Joined combine windows)) = omega arith
some_lane Sink = omega arith

module _ (plan : Shape) (is_plan : IsPlan plan) (m : Moment) (sound : IsSound plan m) where
  -- a node has closed no further than its lanes' floors
  no_further : (d : Down) (lane : CoreLane) → lane_at m d ≡ Some lane → least_begun_mark (node_at m d.node).lanes ≤ floor_at m d
  no_further d lane at =
      let least = closed_least (node_at m d.node).lanes d.lane lane (lane_of plan m (lawful_of sound) d.node d.lane lane at) in
      let behind = begun_behind (bound_at plan d.node) lane (sound.lanes d lane at) in
      let floor = ap floor_of at in
      omega (arith, least, behind, floor)

  -- a closing whose mark is not passed is of a mark that is not below the floor of the lane below
  unpassed_behind : (k : ℕ) (s : Step) → slice_get plan.steps k ≡ Some s → (hs : List Held) → AllByRecursion (IsHeld plan m) hs → list_any (is_unpassed k) hs ≡ true
      → floor_at m s.down ≤ least_begun_mark (node_at m k).lanes
  unpassed_behind k s is [] all h = cc
  unpassed_behind k s is (Work n l epoch floor number records delivered ∷ hs) all h = unpassed_behind k s is hs all.1 h
  unpassed_behind k s is (Close n l epoch serial floor mark rows passed ∷ hs) all h = by_case (eqb n k) passed refl refl h (λ z. unpassed_behind k s is hs all.1 z)
    where
      by_case : (a p : Bool) → eqb n k ≡ a → passed ≡ p → ((a && not p) || list_any (is_unpassed k) hs) ≡ true → (list_any (is_unpassed k) hs ≡ true → floor_at m s.down ≤ least_begun_mark (node_at m k).lanes)
          → floor_at m s.down ≤ least_begun_mark (node_at m k).lanes
      by_case true false e f h ih =
          let nk : n ≡ k = eqb-true n k e in
          let under : floor_at m s.down ≡ floor = all.0.under f s (ap (slice_get plan.steps) nk ∙ is) in
          let rises = all.0.rises in
          let mark : mark ≡ least_begun_mark (node_at m k).lanes = all.0.mark_is ∙ ap (λ k. least_begun_mark (node_at m k).lanes) nk in
          omega (arith, under, rises, mark)
      by_case true true e f h ih = ih h
      by_case false p e f h ih = ih h

  -- the lane below a transform is sealed no further than the transform has closed
  passed_behind : (k : ℕ) (s : Step) → slice_get plan.steps k ≡ Some s → floor_at m s.down ≤ least_begun_mark (node_at m k).lanes
  passed_behind k s is = by_case (list_any (is_unpassed k) m.held) refl
    where
      by_case : (b : Bool) → list_any (is_unpassed k) m.held ≡ b → floor_at m s.down ≤ least_begun_mark (node_at m k).lanes
      by_case true e = unpassed_behind k s is m.held sound.holds e
      by_case false e = let same = (sound.below k s is).as_passed e in omega (arith, same)

  -- some stream's lane is sealed as far as a node has closed
  Leads : ℕ → Type 0
  Leads k = (s : Stream) × (d : Down) × (source plan s ≡ Some d) × (least_begun_mark (node_at m k).lanes ≤ floor_at m d)

  from_one : (k : ℕ) → k ≤ length plan.steps → Leads k
  unfolding Leads
  from_one k b = by_bound k k (omega arith) b
    where
      first_lane : (lanes : List CoreLane) → 1 ≤ length lanes → (lane : CoreLane) × (slice_get lanes 0 ≡ Some lane)
      first_lane [] some = absurd (omega (arith, some))
      first_lane (x ∷ lanes) some = (x, refl)

      step : (k : ℕ) → k ≤ length plan.steps → ((j : ℕ) → j < k → Leads j) → Leads k
      step k b before =
          let one = first_lane (node_at m k).lanes (omega (arith, sound.lanes_there k b, some_lane (operator_at (slice_get plan.steps k)))) in
          let place : Down = record { node = k; lane = 0 } in
          let at : lane_at m place ≡ Some one.0 = of_node plan m (lawful_of sound) k 0 one.0 one.1 in
          let low : least_begun_mark (node_at m k).lanes ≤ floor_at m place = no_further place one.0 at in
          ⊎_elim
          (λ s. (s.0, place, s.1, low))
          (λ s. let lower : s.0 < k = subst (λ (d : Down). s.0 < d.node) s.3 (is_plan.further s.0 s.1 s.2) in
          let r : Leads s.0 = before s.0 lower in
          let under : floor_at m place ≤ least_begun_mark (node_at m s.0).lanes = subst (λ (d : Down). floor_at m d ≤ least_begun_mark (node_at m s.0).lanes) s.3 (passed_behind s.0 s.1 s.2) in
          let so = r.3 in
          (r.0, r.1, r.2, omega (arith, low, under, so)))
          (Feeding.fed plan is_plan place (in_place plan m sound k 0 one.0 b one.1))

      by_bound : (bound k : ℕ) → k ≤ bound → k ≤ length plan.steps → Leads k
      by_bound zero k low b = step k b (λ j h. absurd (omega arith))
      by_bound (suc bound) k low b = step k b (λ j h. by_bound bound j (omega arith) (omega arith))

  -- so the rows are below the last mark of some stream
  pub written_behind : (most : ℕ) → ((s : Stream) (d : Down) → source plan s ≡ Some d → floor_at m d ≤ most) → written_to plan m ≤ most
  unfolding Leads
  written_behind most all =
      let one = from_one (length plan.steps) (omega arith) in
      let low = one.3 in
      let within = all one.0 one.1 one.2 in
      omega (arith, low, within)
