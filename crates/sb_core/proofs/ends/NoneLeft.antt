-- At rest, each stream sealed with the last mark, no container is left.
use Rattle.std.proofs.Common.{◌≡◌, ℕ, suc, zero, ◌≤◌, ◌<◌, Bool, true, false, eqb, List, [], ◌∷◌, length, Some, sym, refl, ap, subst, ◌∙◌, arith, ⊎_elim}
use Rattle.std.specs.Prelude.{◌&&◌, ◌||◌}
use Rattle.std.specs.List.{slice_get, list_any, AllByRecursion}
use Rattle.std.proofs.lemmas.Option.{slice_get_within}
use Rattle.sb_containers.specs.base.NumberLemmas.{bind_some}
use Rattle.sb_containers.specs.base.records.declared.item.Stream.{Stream}
use Rattle.sb_containers.specs.base.records.declared.item.TheConstants.{END_MARK, MAX_TIME}
use Rattle.sb_containers.specs.base.pipeline.declared.transform.Down.{Down}
use Rattle.sb_containers.specs.base.pipeline.declared.transform.Step.{Step}
use Rattle.sb_containers.specs.base.pipeline.Shapes.{Shape, source}
use Rattle.sb_containers.specs.base.pipeline.Operators.{Operator, operator_at}
use Rattle.sb_containers.specs.base.pipeline.Operators.Operator.{ParDo, Windowed, Sink}
use Rattle.sb_containers.specs.base.pipeline.Plans.{IsPlan}
use Rattle.sb_containers.specs.base.FeedingLemmas as Feeding
use Rattle.sb_containers.specs.declared.container.Cont.{Cont}
use Rattle.sb_containers.specs.declared.container.CoreLane.{CoreLane}
use Rattle.sb_core.specs.declared.moment.Moment.{Moment}
use Rattle.sb_core.specs.Bounds.{bound_at}
use Rattle.sb_containers.specs.Lanes.{next_epoch, next_floor}
use Rattle.sb_containers.specs.LaneOrder.{AreOpen}
use Rattle.sb_containers.specs.Marks.{last_of_first}
use Rattle.sb_core.specs.Moments.{lane_at, node_at, floor_of}
use Rattle.sb_core.specs.Holdings.{is_unpassed}
use Rattle.sb_core.specs.Soundness.{has_cont, IsOpenAtSource, IsOpenBelow, IsSound}
use Rattle.sb_core.specs.Laws.{IsDone}
use Rattle.sb_core.specs.Rest.{IsAtRest, AreAtTheEnd, Settles}
use Rattle.sb_core.proofs.ends.AtRest.{all_ended, opened, in_place, free}
use Rattle.sb_containers.proofs.Begun.{next_floor_is}
use Rattle.sb_core.proofs.sound.Orderly.{lawful_of}
use Rattle.sb_core.proofs.times.LawfulTimely.{lane_of, of_node}

module _ (plan : Shape) (is_plan : IsPlan plan) (m : Moment) (sound : IsSound plan m) (rest : IsAtRest m) (sealed : AreAtTheEnd plan m) where
  -- the containers of a lane are those of its next epoch and later ones
  open_in : (d : Down) (lane : CoreLane) → lane_at m d ≡ Some lane
      → AreOpen (bound_at plan d.node) lane.ended (last_of_first lane.ended lane.marks) lane.ended (last_of_first lane.ended lane.marks) lane.conts × (next_epoch lane ≡ lane.ended) × (next_floor lane ≡ last_of_first lane.ended lane.marks)
  open_in d lane at =
      let ok = sound.lanes d lane at in
      let stuck = rest.none_closes d lane at in
      let idle = free plan is_plan m sound rest d lane at in
      let e = all_ended (bound_at plan d.node) lane ok stuck idle in
      (opened (bound_at plan d.node) lane ok stuck idle, sym e, next_floor_is lane ∙ ap (λ n. last_of_first n lane.marks) (sym e))

  -- a stream's lane: the first container would have a floor from the last mark on, which is above each time
  no_source : (s : Stream) (d : Down) (lane : CoreLane) → source plan s ≡ Some d → lane_at m d ≡ Some lane → lane.conts ≡ []
  no_source s d lane is at =
      let o = open_in d lane at in
      let floor : next_floor lane ≡ END_MARK = sym (ap floor_of at) ∙ sealed s d is in
      go lane.conts (sound.open_source s d lane is at) o.0 (sym o.1) (sym o.2 ∙ floor)
    where
      go : (cs : List Cont) → AllByRecursion (λ c. next_epoch lane ≤ c.epoch → IsOpenAtSource (next_epoch lane) c.epoch c.floor) cs
          → AreOpen (bound_at plan d.node) lane.ended (last_of_first lane.ended lane.marks) lane.ended (last_of_first lane.ended lane.marks) cs → lane.ended ≡ next_epoch lane → last_of_first lane.ended lane.marks ≡ END_MARK → cs ≡ []
      go [] times are e f = refl
      go (c ∷ cs) times are e f =
          let t : c.floor ≤ MAX_TIME = (times.0 (omega (arith, e, are.0.epoch_from))).1 in
          absurd (omega (arith, t, f, are.0.floor_from))

  -- a lane below: below a ParDo without containers, and below others with nothing unpassed, none is open
  no_below : (k : ℕ) (s : Step) (lane : CoreLane) → slice_get plan.steps k ≡ Some s → lane_at m s.down ≡ Some lane
      → ((e f : ℕ) → list_any (has_cont e f) (node_at m k).lanes ≡ false) → lane.conts ≡ []
  no_below k s lane is at above =
      let o = open_in s.down lane at in
      go lane.conts (sound.open_below k s lane is at) o.0 (sym o.1)
    where
      none_open : (o : Operator) (lanes : List CoreLane) (unpassed : Bool) (next e f : ℕ) → list_any (has_cont e f) lanes ≡ false → unpassed ≡ false → IsOpenBelow o lanes unpassed next e f → ⊥
      none_open (ParDo op) lanes unpassed next e f none shut h = let k : true ≡ false = sym h ∙ none in cc
      none_open (Windowed g) lanes unpassed next e f none shut h = let k : true ≡ false = sym h.0 ∙ shut in cc
      none_open Sink lanes unpassed next e f none shut h = h

      go : (cs : List Cont)
          → AllByRecursion (λ c. next_epoch lane ≤ c.epoch → IsOpenBelow (operator_at (slice_get plan.steps k)) (node_at m k).lanes (list_any (is_unpassed k) m.held) (next_epoch lane) c.epoch c.floor) cs
          → AreOpen (bound_at plan s.down.node) lane.ended (last_of_first lane.ended lane.marks) lane.ended (last_of_first lane.ended lane.marks) cs → lane.ended ≡ next_epoch lane → cs ≡ []
      go [] below are e = refl
      go (c ∷ cs) below are e =
          absurd (none_open (operator_at (slice_get plan.steps k)) (node_at m k).lanes (list_any (is_unpassed k) m.held) (next_epoch lane) c.epoch c.floor (above c.epoch c.floor)
          (ap (list_any (is_unpassed k)) rest.none_held) (below.0 (omega (arith, e, are.0.epoch_from))))

  -- lanes without containers have none of an epoch and floor
  has_none : (e f : ℕ) (lanes : List CoreLane) → ((l : ℕ) (lane : CoreLane) → slice_get lanes l ≡ Some lane → lane.conts ≡ []) → list_any (has_cont e f) lanes ≡ false
  has_none e f [] each = refl
  has_none e f (x ∷ lanes) each =
      (λ i. list_any (λ c. (eqb c.epoch e) && (eqb c.floor f)) (each 0 x refl i) || list_any (has_cont e f) lanes) ∙ has_none e f lanes (λ l lane h. each (suc l) lane h)

  none_at : (bound k : ℕ) → k ≤ bound → k ≤ length plan.steps → (l : ℕ) (lane : CoreLane) → slice_get (node_at m k).lanes l ≡ Some lane → lane.conts ≡ []
  none_at bound k low b = by_bound bound k low b
    where
      Empty : ℕ → Type 0
      Empty k = (l : ℕ) (lane : CoreLane) → slice_get (node_at m k).lanes l ≡ Some lane → lane.conts ≡ []

      step : (k : ℕ) → k ≤ length plan.steps → ((j : ℕ) → j < k → Empty j) → Empty k
      step k b before l lane h =
          let place : Down = record { node = k; lane = l } in
          let at : lane_at m place ≡ Some lane = of_node plan m (lawful_of sound) k l lane h in
          ⊎_elim
          (λ s. no_source s.0 place lane s.1 at)
          (λ s. let lower : s.0 < k = subst (λ (d : Down). s.0 < d.node) s.3 (is_plan.further s.0 s.1 s.2) in
          no_below s.0 s.1 lane s.2 (ap (lane_at m) s.3 ∙ at) (λ e f. has_none e f (node_at m s.0).lanes (before s.0 lower)))
          (Feeding.fed plan is_plan place (in_place plan m sound k l lane b h))

      by_bound : (bound k : ℕ) → k ≤ bound → k ≤ length plan.steps → Empty k
      by_bound zero k low b = step k b (λ j h. absurd (omega arith))
      by_bound (suc bound) k low b = step k b (λ j h. by_bound bound j (omega arith) (omega arith))

  is_done : IsDone plan m
  is_done = record {
    sealed = sealed;
    none_left = λ d lane at.
        let b = bind_some (slice_get m.nodes d.node) (λ node. slice_get node.lanes d.lane) lane at in
        let small : d.node ≤ length plan.steps = omega (arith, sound.nodes, slice_get_within m.nodes d.node b.0 b.1) in
        none_at (length plan.steps) d.node small small d.lane lane (lane_of plan m (lawful_of sound) d.node d.lane lane at);
  }

pub settles-all : Settles
settles-all plan is_plan m sound rest sealed = is_done plan is_plan m sound rest sealed
