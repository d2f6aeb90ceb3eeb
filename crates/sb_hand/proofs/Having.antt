-- The lanes that nodes have.
use Rattle.std.proofs.Common.{◌≡◌, ℕ, suc, zero, ◌+◌, ◌≤◌, ◌<◌, Bool, true, List, [], ◌∷◌, length, map, get_or, Some, cond, sym, refl, ap, subst, ◌∙◌, arith}
use Rattle.std.specs.List.{slice_get, AllByRecursion}
use Rattle.std.specs.Option.{option_map}
use Rattle.std.proofs.lemmas.List.{length-map}
use Rattle.std.proofs.lemmas.Option.{same_Some, slice_get_read}
use Rattle.sb_shown.proofs.Steps.{lanes_two, step-of}
use Rattle.sb_shown.proofs.base.records.Numbers.{bind_some}
use Rattle.sb_shown.specs.base.records.declared.item.Record.{Record}
use Rattle.sb_shown.specs.base.pipeline.declared.transform.Step.{Step}
use Rattle.sb_shown.specs.base.pipeline.declared.transform.Down.{Down}
use Rattle.sb_shown.specs.base.pipeline.Shapes.{Shape}
use Rattle.sb_shown.specs.base.pipeline.Operators.{operator_at, lanes_of}
use Rattle.sb_shown.specs.core.containers.declared.container.CoreLane.{CoreLane}
use Rattle.sb_shown.specs.core.declared.moment.Node.{Node}
use Rattle.sb_shown.specs.core.declared.moment.Moment.{Moment}
use Rattle.sb_shown.specs.core.declared.held.Held.{Held}
use Rattle.sb_shown.specs.core.declared.held.Held.TheVariants.{Close}
use Rattle.sb_shown.specs.core.Bounds.{bound_at}
use Rattle.sb_shown.specs.core.Holdings.{IsHeld, IsClosing}
use Rattle.sb_shown.specs.core.containers.Marks.{first_is_closing, begun_count}
use Rattle.sb_shown.specs.core.Moments.{lane_at}
use Rattle.sb_shown.proofs.core.containers.Begun.{begun_within}
use Rattle.sb_shown.specs.lane.LaneView.{LaneView, lane_of}
use Rattle.sb_shown.specs.lane.Placed.{conts_of}
use Rattle.sb_shown.specs.node.declared.state.NodeState.{NodeState}
use Rattle.sb_shown.specs.Sets.{HasLane}
use Rattle.sb_shown.specs.Showing.{ShowsNode, Stands, CanStand}
use Rattle.sb_shown.proofs.Calm.{node_is}
use Rattle.sb_shown.proofs.Single.{there-too}

unmap : {X Y : Type 0} (f : X → Y) (xs : List X) (k : ℕ) (y : Y) → slice_get (map f xs) k ≡ Some y → (x : X) × (slice_get xs k ≡ Some x) × (f x ≡ y)
unmap f [] k y h = cc
unmap f (x ∷ xs) zero y h = (x, refl, same_Some (f x) y h)
unmap f (x ∷ xs) (suc k) y h = unmap f xs k y h

get-within : {X : Type 0} (xs : List X) (k : ℕ) → k < length xs → (x : X) × (slice_get xs k ≡ Some x)
get-within [] k h = absurd (omega arith)
get-within (x ∷ xs) zero h = (x, refl)
get-within (x ∷ xs) (suc k) h = get-within xs k (omega arith)

-- a lane that is there, as the moment has it
pub record Finds (nodes : List NodeState) (d : Down) (is : CoreLane) : Type 0 where
  pub lane : LaneView
  pub has : HasLane d.node d.lane lane nodes
  pub lane_is : lane_of lane ≡ is

module _ (plan : Shape) (bundle : ℕ) (nodes : List NodeState) (held : List Held) (rows : List Record) (m : Moment) (s : Stands plan bundle nodes held rows m) where
  pub finds : (d : Down) (is : CoreLane) → lane_at m d ≡ Some is → Finds nodes d is
  finds d is h =
      let a = bind_some (slice_get m.nodes d.node) _ is h in
      let own = there-too m.nodes nodes d.node a.0 (sym s.count) a.1 in
      let sh : ShowsNode (operator_at (slice_get plan.steps d.node)) own.0 a.0 = s.each d.node own.0 a.0 own.1 a.1 in
      let x = unmap lane_of own.0.lanes.items d.lane is (ap (λ ls. slice_get ls d.lane) (sym sh.lanes) ∙ a.2) in
      record { lane = x.0; has = record { own = own.0; there = own.1; in_it = x.1 }; lane_is = x.2 }

  -- the lane below a transform
  pub has-below : (k : ℕ) (st : Step) → slice_get plan.steps k ≡ Some st → (lane : LaneView) × HasLane st.down.node st.down.lane lane nodes
  has-below k st h = let b = s.sound.below k st h in let f = finds st.down b.lane b.there in (f.lane, f.has)

  -- how many lanes a node has
  pub lanes-are : (k : ℕ) (own : NodeState) → k ≤ length plan.steps → slice_get nodes k ≡ Some own → length own.lanes.items ≡ lanes_of (operator_at (slice_get plan.steps k))
  lanes-are k own within there =
      let n = there-too nodes m.nodes k own s.count there in
      let sh : ShowsNode (operator_at (slice_get plan.steps k)) own n.0 = s.each k own n.0 there n.1 in
      sym (length-map own.lanes.items lane_of) ∙ ap length (sym sh.lanes) ∙ ap (λ (x : Node). length x.lanes) (sym (node_is m k n.0 n.1)) ∙ s.sound.lanes_there k within

  pub node-count : length nodes ≡ length plan.steps + 1
  node-count = sym s.count ∙ s.sound.nodes

  -- the closing in hand: its lane
  pub closing-lane : (k l epoch serial floor mark : ℕ) (records : List Record) (passed : Bool) → held ≡ Close k l epoch serial floor mark records passed ∷ [] → (lane : LaneView) × HasLane k l lane nodes × (first_is_closing (conts_of lane.containers) ≡ true) × (lane.ended < length lane.marks)
  closing-lane k l epoch serial floor mark records passed only =
      let c : IsClosing plan m k l epoch serial floor mark records passed = (subst (λ (hs : List Held). AllByRecursion (IsHeld plan m) hs) (s.held_is ∙ only) s.sound.holds).0 in
      let f = finds (record { node = k; lane = l }) c.lane c.there in
      let e : first_is_closing (conts_of f.lane.containers) ≡ true = ap (λ (x : CoreLane). first_is_closing x.conts) f.lane_is ∙ c.closing in
      let ok = s.sound.lanes (record { node = k; lane = l }) c.lane c.there in
      let b = begun_within (bound_at plan k) c.lane ok in
      let n : begun_count c.lane ≡ c.lane.ended + 1 = ap (λ b. cond b (c.lane.ended + 1) c.lane.ended) c.closing in
      let x = ap (λ (x : CoreLane). x.ended) f.lane_is in
      let y = ap (λ (x : CoreLane). length x.marks) f.lane_is in
      (f.lane, f.has, e, omega (arith, b, n, x, y))

pub has-down : (plan : Shape) (bundle : ℕ) (nodes : List NodeState) (held : List Held) → CanStand plan bundle nodes held → (k : ℕ) (d : Down) → option_map (λ (s : Step). s.down) (slice_get plan.steps k) ≡ Some d → (lane : LaneView) × HasLane d.node d.lane lane nodes
has-down plan bundle nodes held can k d h =
    let st = step-of plan.steps k d h in
    subst (λ (x : Down). (lane : LaneView) × HasLane x.node x.lane lane nodes) st.2 (has-below plan bundle nodes held can.rows can.moment can.stands k st.0 st.1)

pub same-get : {X : Type 0} (xs : List X) (i : ℕ) (a b : X) → i < length xs → get_or xs i a ≡ get_or xs i b
same-get [] i a b h = absurd (omega arith)
same-get (x ∷ xs) zero a b h = refl
same-get (x ∷ xs) (suc i) a b h = same-get xs i a b (omega arith)

-- the node that code reads
pub record IsNode (plan : Shape) (nodes : List NodeState) (k : ℕ) (own : NodeState) : Type 0 where
  pub there : slice_get nodes k ≡ Some own
  pub few : length own.lanes.items ≤ 2

pub node-there : (plan : Shape) (bundle : ℕ) (nodes : List NodeState) (held : List Held) → CanStand plan bundle nodes held → (k : ℕ) → k ≤ length plan.steps → (own : NodeState) → own ≡ get_or nodes k own → IsNode plan nodes k own
node-there plan bundle nodes held can k within own is =
    let n = node-count plan bundle nodes held can.rows can.moment can.stands in
    let there = slice_get_read nodes (length nodes) k own refl (omega (arith, n)) is in
    let e = lanes-are plan bundle nodes held can.rows can.moment can.stands k own within there in
    record { there = there; few = omega (arith, e, lanes_two (operator_at (slice_get plan.steps k))) }
