-- The lanes of a node that a pass finds, as the moment has them.
use Rattle.std.proofs.Common.{◌≡◌, ℕ, suc, zero, ◌≤◌, List, [], ◌∷◌, length, map, Some, Option, sym, refl, ap, subst, ◌∙◌, arith}
use Rattle.std.specs.Prelude.{◌==◌, All}
use Rattle.std.specs.List.{slice_get}
use Rattle.std.proofs.lemmas.List.{length-map}
use Rattle.std.proofs.lemmas.List.Elements.{All-get_or}
use Rattle.std.proofs.lemmas.Option.{same_Some, slice_get_within, get_or_from_slice_get}
use Rattle.sb_shown.specs.base.records.declared.item.Stream.{Stream}
use Rattle.sb_shown.specs.base.records.Reading.{◌>>=◌}
use Rattle.sb_shown.proofs.base.records.Numbers.{bind_some}
use Rattle.sb_shown.specs.base.pipeline.declared.transform.Down.{Down}
use Rattle.sb_shown.specs.base.pipeline.Shapes.{source}
use Rattle.sb_shown.specs.base.pipeline.Operators.{Operator, lanes_of}
use Rattle.sb_shown.specs.base.pipeline.Operators.Operator.{ParDo, Windowed, Sink}
use Rattle.sb_shown.specs.base.pipeline.Operators.WindowOperator.{Aggregated, Sessions, Joined}
use Rattle.sb_shown.specs.core.containers.declared.container.CoreLane.{CoreLane}
use Rattle.sb_shown.specs.core.declared.moment.Node.{Node}
use Rattle.sb_shown.specs.core.Bounds.{bound_at}
use Rattle.sb_shown.specs.core.Closings.{is_sink}
use Rattle.sb_shown.specs.core.Events.{below}
use Rattle.sb_shown.specs.core.containers.LaneOrder.{IsLane}
use Rattle.sb_shown.specs.core.Moments.{lane_at, node_at}
use Rattle.sb_shown.proofs.core.times.Timely.{sink-last}
use Rattle.sb_shown.specs.lane.LaneView.{LaneView, lane_of}
use Rattle.sb_shown.specs.node.Changes.{HasLane}
use Rattle.sb_shown.proofs.Steps.{lanes_two}
use Rattle.sb_shown.proofs.Calm.{node_is}
use Rattle.sb_shown.proofs.Single.{get-map}
use Rattle.sb_shared.specs.declared.telling.Hands.{Hands}
use Rattle.sb_shared.specs.declared.telling.Setting.{Setting}
use Rattle.sb_shared.specs.Found.{IsFound}
use Rattle.sb_shared.specs.SharedNodes.{SharedView}
use Rattle.sb_shared.specs.Shown.{operator_of}

-- what all have, one that is there has
pub all_at : {X : Type 0} (P : X → Type 0) (xs : List X) (i : ℕ) (x : X) → All P xs → slice_get xs i ≡ Some x → P x
all_at P xs i x all h = subst P (get_or_from_slice_get xs i x x h) (All-get_or P xs i x (slice_get_within xs i x h) all)

-- what stands in a mapped list comes from what stands there
pub from_map : {X Y : Type 0} (f : X → Y) (xs : List X) (k : ℕ) (y : Y) → slice_get (map f xs) k ≡ Some y → (x : X) × (slice_get xs k ≡ Some x) × (f x ≡ y)
from_map f [] k y h = cc
from_map f (x ∷ xs) zero y h = (x, refl, same_Some (f x) y h)
from_map f (x ∷ xs) (suc k) y h = from_map f xs k y h

-- each node has a lane
pub lanes_some : (op : Operator) → 1 ≤ lanes_of op
lanes_some (ParDo op) = omega arith
lanes_some (Windowed (Aggregated agg windows)) = omega arith
lanes_some (Windowed (Sessions agg gap)) = omega arith
lanes_some (Windowed (Joined combine windows)) = omega arith
lanes_some Sink = omega arith

module _ (a : Setting) (w : Hands) (k : ℕ) (x : SharedView) (f : IsFound a w k x) where
  -- the node is one of the plan
  pub near : k ≤ length a.plan.steps
  near = omega (arith, slice_get_within f.moment.nodes k f.part f.there, f.sound.nodes)

  -- it is the sink if it is the last
  pub sink_here : (count : ℕ) → count ≡ length a.plan.steps → (k == count) ≡ is_sink (operator_of a k)
  sink_here count e = sink-last a.plan.steps k count e near

  -- its part is what the moment has there
  pub part_there : node_at f.moment k ≡ f.part
  part_there = node_is f.moment k f.part f.there

  -- how many lanes it has
  pub lanes_are : length x.own.lanes.items ≡ lanes_of (operator_of a k)
  lanes_are =
      sym (length-map x.own.lanes.items lane_of) ∙ ap length (sym f.shown.lanes)
      ∙ ap (λ (n : Node). length n.lanes) (sym part_there) ∙ f.sound.lanes_there k near

  pub lanes_few : (1 ≤ length x.own.lanes.items) × (length x.own.lanes.items ≤ 2)
  lanes_few =
      let s = lanes_some (operator_of a k) in
      let t = lanes_two (operator_of a k) in
      (omega (arith, s, lanes_are), omega (arith, t, lanes_are))

  -- a lane of the state is one of its part, and of the moment
  pub lane_in_part : (l : ℕ) (at : LaneView) → HasLane l at x.own → slice_get f.part.lanes l ≡ Some (lane_of at)
  lane_in_part l at has = ap (λ ls. slice_get ls l) f.shown.lanes ∙ get-map lane_of x.own.lanes.items l at has

  pub lane_in_moment : (l : ℕ) (c : CoreLane) → slice_get f.part.lanes l ≡ Some c → lane_at f.moment (record { node = k; lane = l }) ≡ Some c
  lane_in_moment l c h = ap (λ (o : Option Node). o >>= λ y. slice_get y.lanes l) f.there ∙ h

  -- and is in order
  pub lane_ok : (l : ℕ) (at : LaneView) → HasLane l at x.own → IsLane (bound_at a.plan k) (lane_of at)
  lane_ok l at has = f.sound.lanes (record { node = k; lane = l }) (lane_of at) (lane_in_moment l (lane_of at) (lane_in_part l at has))

  -- a lane of its part is one of the state
  pub lane_of_part : (l : ℕ) (c : CoreLane) → slice_get f.part.lanes l ≡ Some c → (at : LaneView) × HasLane l at x.own × (lane_of at ≡ c)
  lane_of_part l c h = from_map lane_of x.own.lanes.items l c (ap (λ ls. slice_get ls l) (sym f.shown.lanes) ∙ h)

  -- and so is one that the moment has in this node
  pub lane_found : (d : Down) (c : CoreLane) → d.node ≡ k → lane_at f.moment d ≡ Some c → (at : LaneView) × HasLane d.lane at x.own × (lane_of at ≡ c)
  lane_found d c here h =
      lane_of_part d.lane c
      (sym (ap (λ (o : Option Node). o >>= λ y. slice_get y.lanes d.lane) f.there) ∙ ap (λ j. slice_get f.moment.nodes j >>= λ y. slice_get y.lanes d.lane) (sym here) ∙ h)

  -- the lane of a stream
  pub source_lane : (s : Stream) (d : Down) → source a.plan s ≡ Some d → d.node ≡ k → (at : LaneView) × HasLane d.lane at x.own
  source_lane s d from here =
      let c = f.sound.sources s d from in
      let at = lane_found d c.0 here c.1 in
      (at.0, at.1)

  -- the lane below a transform
  pub below_lane : (j : ℕ) (d : Down) → below a.plan j ≡ Some d → d.node ≡ k → (at : LaneView) × HasLane d.lane at x.own
  below_lane j d under here =
      let st = bind_some (slice_get a.plan.steps j) _ d under in
      let c = f.sound.below j st.0 st.1 in
      let at = lane_found d c.lane here (ap (lane_at f.moment) (sym (same_Some st.0.down d st.2)) ∙ c.there) in
      (at.0, at.1)
