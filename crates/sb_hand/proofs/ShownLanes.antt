-- The lanes of nodes, and those of the moment that they show.
use Rattle.std.proofs.Common.{◌≡◌, ℕ, ◌≤◌, List, [], ◌∷◌, length, get_or, Some, Option, refl, ap, subst, ◌∙◌, arith, ⊎_elim}
use Rattle.std.specs.List.{slice_get, All}
use Rattle.std.proofs.lemmas.Option.{slice_get_cases, slice_get_within, slice_get-get_or, get_or_from_slice_get}
use Rattle.sb_shown.specs.base.records.declared.item.Record.{Record}
use Rattle.sb_shown.specs.base.records.Reading.{◌>>=◌}
use Rattle.sb_shown.specs.base.pipeline.Shapes.{Shape}
use Rattle.sb_shown.specs.base.pipeline.Operators.{operator_at}
use Rattle.sb_shown.specs.core.declared.moment.Node.{Node}
use Rattle.sb_shown.specs.core.declared.moment.Moment.{Moment}
use Rattle.sb_shown.specs.core.declared.held.Held.{Held}
use Rattle.sb_shown.specs.core.Moments.{lane_at}
use Rattle.sb_shown.specs.lane.LaneView.{LaneView, lane_of}
use Rattle.sb_shown.specs.lane.Placed.{Placed, conts_of}
use Rattle.sb_shown.specs.node.declared.state.NodeState.{NodeState}
use Rattle.sb_hand.specs.HandLaws.{ShowsSources, TakesSources, HasItsLanes, DoneIsEmpty}
use Rattle.sb_shown.specs.Sets.{HasLane}
use Rattle.sb_shown.specs.Showing.{ShowsNode, Stands}
use Rattle.sb_hand.proofs.Having.{finds, lanes-are, node-count}
use Rattle.sb_shown.proofs.Single.{get-map, there-too}

pub one-of-all : {X : Type 0} (P : X → Type 0) (xs : List X) (k : ℕ) (x : X) → All P xs → slice_get xs k ≡ Some x → P x
one-of-all P xs k x all h = subst P (get_or_from_slice_get xs k x x h) (all k x (slice_get_within xs k x h))

pub all-of-each : {X : Type 0} (P : X → Type 0) (xs : List X) → ((k : ℕ) (x : X) → slice_get xs k ≡ Some x → P x) → All P xs
all-of-each P xs each = λ k d h. each k (get_or xs k d) (slice_get-get_or xs k d h)

module _ (plan : Shape) (bundle : ℕ) (nodes : List NodeState) (held : List Held) (rows : List Record) (m : Moment) (s : Stands plan bundle nodes held rows m) where
  pub within-plan : (k : ℕ) (n : Node) → slice_get m.nodes k ≡ Some n → k ≤ length plan.steps
  within-plan k n at = omega (arith, s.sound.nodes, slice_get_within m.nodes k n at)

  pub lane-shown : (k l : ℕ) (lane : LaneView) → HasLane k l lane nodes → lane_at m (record { node = k; lane = l }) ≡ Some (lane_of lane)
  lane-shown k l lane h =
      let n = there-too nodes m.nodes k h.own s.count h.there in
      let shows : ShowsNode (operator_at (slice_get plan.steps k)) h.own n.0 = s.each k h.own n.0 h.there n.1 in
      ap (λ (o : Option Node). o >>= λ node. slice_get node.lanes l) n.1
      ∙ ap (λ ls. slice_get ls l) shows.lanes
      ∙ get-map lane_of h.own.lanes.items l lane h.in_it

pub shows-sources : ShowsSources
shows-sources plan bundle nodes held rows m s stream into = lane-shown plan bundle nodes held rows m s into.place.node into.place.lane into.lane into.has

pub takes-sources : TakesSources
takes-sources plan bundle nodes held rows m s stream place goes =
    let there = s.sound.sources stream place goes in
    let f = finds plan bundle nodes held rows m s place there.0 there.1 in
    (record { place = place; goes = goes; lane = f.lane; has = f.has }, refl)

pub has-its_lanes : HasItsLanes
has-its_lanes plan bundle nodes held rows m s k l within small =
    let many = node-count plan bundle nodes held rows m s in
    ⊎_elim
    (λ own.
    let long = lanes-are plan bundle nodes held rows m s k own.0 within own.2 in
    ⊎_elim
    (λ lane. (lane.0, record { own = own.0; there = own.2; in_it = lane.2 }))
    (λ past. absurd (omega (arith, past.0, long, small)))
    (slice_get_cases own.0.lanes.items l).1)
    (λ past. absurd (omega (arith, past.0, many, within)))
    (slice_get_cases nodes k).1

none-placed : (xs : List Placed) → conts_of xs ≡ [] → xs ≡ []
none-placed [] h = refl
none-placed (x ∷ xs) h = cc

pub done-is-empty : DoneIsEmpty
done-is-empty plan bundle nodes held rows m s done =
    all-of-each (λ (own : NodeState). All (λ (lane : LaneView). lane.containers ≡ []) own.lanes.items) nodes (λ k own there.
    all-of-each (λ (lane : LaneView). lane.containers ≡ []) own.lanes.items (λ l lane in_it.
    none-placed lane.containers (done.none_left (record { node = k; lane = l }) (lane_of lane)
    (lane-shown plan bundle nodes held rows m s k l lane (record { own = own; there = there; in_it = in_it })))))
