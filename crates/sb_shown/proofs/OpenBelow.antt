-- What soundness says of the containers of a lane that are not sealed.
use Rattle.std.proofs.Common.{◌≡◌, ℕ, ◌≤◌, Bool, true, false, cond, eqb, List, [], ◌∷◌, length, Some, None, Option, sym, refl, ap, subst, ◌∙◌, arith}
use Rattle.std.specs.Prelude.{◌||◌, ◌&&◌}
use Rattle.std.specs.List.{slice_get, list_any, AllByRecursion}
use Rattle.std.proofs.lemmas.Bool.{eqb-true}
use Rattle.sb_node.specs.base.records.declared.item.Record.{Record}
use Rattle.sb_node.specs.base.records.Reading.{◌>>=◌}
use Rattle.sb_node.specs.base.pipeline.declared.transform.Step.{Step}
use Rattle.sb_node.specs.base.pipeline.Shapes.{Shape}
use Rattle.sb_node.specs.base.pipeline.Plans.{IsPlan}
use Rattle.sb_node.specs.base.pipeline.Operators.{Operator, operator_at}
use Rattle.sb_node.specs.base.pipeline.Operators.Operator.{ParDo, Windowed, Sink}
use Rattle.sb_tally.specs.core.containers.declared.container.CoreLane.{CoreLane}
use Rattle.sb_tally.specs.core.declared.moment.Node.{Node}
use Rattle.sb_tally.specs.core.declared.moment.Moment.{Moment}
use Rattle.sb_tally.specs.core.declared.held.Held.{Held}
use Rattle.sb_tally.specs.core.Bounds.{bound_at}
use Rattle.sb_tally.specs.core.Closings.{is_pardo}
use Rattle.sb_tally.specs.core.Holdings.{is_unpassed}
use Rattle.sb_tally.specs.core.containers.LaneOrder.{IsLane}
use Rattle.sb_tally.specs.core.Moments.{lane_at, node_at}
use Rattle.sb_tally.specs.core.Soundness.{IsOpenBelow, IsSound, has_cont}
use Rattle.sb_tally.proofs.core.sound.Orderly.{lawful_of}
use Rattle.sb_tally.proofs.core.sound.PutSound.{lone_has}
use Rattle.sb_node.specs.lane.LaneView.{LaneView, lane_of}
use Rattle.sb_node.specs.lane.Links.{Link, link_of, link_in, links_of}
use Rattle.sb_node.specs.lane.Placed.{Placed, conts_of}
use Rattle.sb_node.specs.declared.state.NodeState.{NodeState}
use Rattle.sb_shown.specs.Sets.{HasLane}
use Rattle.sb_shown.specs.Showing.{ShowsNode, Stands}
use Rattle.sb_shown.proofs.Calm.{node_is}
use Rattle.sb_shown.proofs.Single.{there-too, get-map}

-- a container that is there has a link
cont-linked : (xs : List Placed) (e f : ℕ) → list_any (λ c. (eqb c.epoch e) && (eqb c.floor f)) (conts_of xs) ≡ true → link_in e (links_of xs) ≡ None → ⊥
cont-linked [] e f h none = cc
cont-linked (x ∷ xs) e f h none = by_case (eqb x.cont.epoch e) h none (λ y z. cont-linked xs e f y z)
  where
    by_case : (b : Bool) → ((b && eqb x.cont.floor f) || list_any (λ c. (eqb c.epoch e) && (eqb c.floor f)) (conts_of xs)) ≡ true → cond b (Some (link_of x)) (link_in e (links_of xs)) ≡ None
        → (list_any (λ c. (eqb c.epoch e) && (eqb c.floor f)) (conts_of xs) ≡ true → link_in e (links_of xs) ≡ None → ⊥) → ⊥
    by_case true h none ih = cc
    by_case false h none ih = ih h none

-- what holds of all containers from an epoch on, of one that is there
open-at : (P : ℕ → ℕ → Type 0) (n e : ℕ) (xs : List Placed) (j : Link) → AllByRecursion (λ c. n ≤ c.epoch → P c.epoch c.floor) (conts_of xs) → link_in e (links_of xs) ≡ Some j → n ≤ e → (f : ℕ) × P e f
open-at P n e [] j all h le = cc
open-at P n e (x ∷ xs) j all h le = by_case (eqb x.cont.epoch e) refl h (λ z. open-at P n e xs j all.1 z le)
  where
    by_case : (b : Bool) → eqb x.cont.epoch e ≡ b → cond b (Some (link_of x)) (link_in e (links_of xs)) ≡ Some j → (link_in e (links_of xs) ≡ Some j → (f : ℕ) × P e f) → (f : ℕ) × P e f
    by_case true q h ih = let is = eqb-true x.cont.epoch e q in (x.cont.floor, subst (λ z. P z x.cont.floor) is (all.0 (omega (arith, is, le))))
    by_case false q h ih = ih h

below-pardo : (o : Operator) (lanes : List CoreLane) (u : Bool) (n e f : ℕ) → is_pardo o ≡ true → IsOpenBelow o lanes u n e f → list_any (has_cont e f) lanes ≡ true
below-pardo (ParDo op) lanes u n e f p h = h
below-pardo (Windowed g) lanes u n e f p h = cc
below-pardo Sink lanes u n e f p h = absurd h

below-other : (o : Operator) (lanes : List CoreLane) (u : Bool) (n e f : ℕ) → is_pardo o ≡ false → u ≡ false → IsOpenBelow o lanes u n e f → ⊥
below-other (ParDo op) lanes u n e f p q h = cc
below-other (Windowed g) lanes u n e f p q h = let z : false ≡ true = sym q ∙ h.0 in cc
below-other Sink lanes u n e f p q h = h

module _ (plan : Shape) (is_plan : IsPlan plan) (m : Moment) (sound : IsSound plan m) (k : ℕ) (st : Step) (is : slice_get plan.steps k ≡ Some st) (under : LaneView) (below : lane_at m st.down ≡ Some (lane_of under)) (epoch : ℕ) (from : length under.marks ≤ epoch) where
  opens : (j : Link) → link_in epoch (links_of under.containers) ≡ Some j → (f : ℕ) × IsOpenBelow (operator_at (slice_get plan.steps k)) (node_at m k).lanes (list_any (is_unpassed k) m.held) (length under.marks) epoch f
  opens j h =
      open-at (λ e f. IsOpenBelow (operator_at (slice_get plan.steps k)) (node_at m k).lanes (list_any (is_unpassed k) m.held) (length under.marks) e f) (length under.marks) epoch under.containers j
      (sound.open_below k st (lane_of under) is below) h from

  -- below a transform of single records each has one above
  pub none-below-pardo : is_pardo (operator_at (slice_get plan.steps k)) ≡ true → (own : LaneView) → slice_get (node_at m k).lanes 0 ≡ Some (lane_of own) → link_in epoch (links_of own.containers) ≡ None → link_in epoch (links_of under.containers) ≡ None
  none-below-pardo pardo own above none = by_link (link_in epoch (links_of under.containers)) refl
    where
      by_link : (o : Option Link) → link_in epoch (links_of under.containers) ≡ o → o ≡ None
      by_link None h = refl
      by_link (Some j) h =
          let w = opens j h in
          let any = below-pardo (operator_at (slice_get plan.steps k)) (node_at m k).lanes (list_any (is_unpassed k) m.held) (length under.marks) epoch w.0 pardo w.1 in
          let one = (lawful_of sound).one_lane k pardo in
          let mine : has_cont epoch w.0 (lane_of own) ≡ true = sym (lone_has plan is_plan m m sound (node_at m k).lanes 0 epoch w.0 (lane_of own) one above) ∙ any in
          absurd (cont-linked own.containers epoch w.0 mine none)

  -- below another there is none while none of its closings is in hand
  pub none-below-other : is_pardo (operator_at (slice_get plan.steps k)) ≡ false → list_any (is_unpassed k) m.held ≡ false → link_in epoch (links_of under.containers) ≡ None
  none-below-other other passed = by_link (link_in epoch (links_of under.containers)) refl
    where
      by_link : (o : Option Link) → link_in epoch (links_of under.containers) ≡ o → o ≡ None
      by_link None h = refl
      by_link (Some j) h =
          let w = opens j h in
          absurd (below-other (operator_at (slice_get plan.steps k)) (node_at m k).lanes (list_any (is_unpassed k) m.held) (length under.marks) epoch w.0 other passed w.1)

module _ (plan : Shape) (is_plan : IsPlan plan) (bundle : ℕ) (nodes : List NodeState) (held : List Held) (rows : List Record) (m : Moment) (s : Stands plan bundle nodes held rows m) where
  pub lane-shown : (k l : ℕ) (lane : LaneView) → HasLane k l lane nodes → lane_at m (record { node = k; lane = l }) ≡ Some (lane_of lane)
  lane-shown k l lane has =
      let n = there-too nodes m.nodes k has.own s.count has.there in
      let sh : ShowsNode (operator_at (slice_get plan.steps k)) has.own n.0 = s.each k has.own n.0 has.there n.1 in
      ap (λ (o : Option Node). o >>= λ x. slice_get x.lanes l) n.1 ∙ ap (λ ls. slice_get ls l) sh.lanes ∙ get-map lane_of has.own.lanes.items l lane has.in_it

  pub lane-ok : (k l : ℕ) (lane : LaneView) → HasLane k l lane nodes → IsLane (bound_at plan k) (lane_of lane)
  lane-ok k l lane has = s.sound.lanes (record { node = k; lane = l }) (lane_of lane) (lane-shown k l lane has)

  pub lane-of-node : (k l : ℕ) (lane : LaneView) → HasLane k l lane nodes → slice_get (node_at m k).lanes l ≡ Some (lane_of lane)
  lane-of-node k l lane has =
      let n = there-too nodes m.nodes k has.own s.count has.there in
      let sh : ShowsNode (operator_at (slice_get plan.steps k)) has.own n.0 = s.each k has.own n.0 has.there n.1 in
      ap (λ (x : Node). slice_get x.lanes l) (node_is m k n.0 n.1) ∙ ap (λ ls. slice_get ls l) sh.lanes ∙ get-map lane_of has.own.lanes.items l lane has.in_it

  module _ (k : ℕ) (st : Step) (is : slice_get plan.steps k ≡ Some st) (under : LaneView) (has : HasLane st.down.node st.down.lane under nodes) (epoch : ℕ) (from : length under.marks ≤ epoch) where
    pub none-under : is_pardo (operator_at (slice_get plan.steps k)) ≡ true → (own : LaneView) → HasLane k 0 own nodes → link_in epoch (links_of own.containers) ≡ None → link_in epoch (links_of under.containers) ≡ None
    none-under pardo own above =
        none-below-pardo plan is_plan m s.sound k st is under (lane-shown st.down.node st.down.lane under has) epoch from pardo own (lane-of-node k 0 own above)

    pub none-before : is_pardo (operator_at (slice_get plan.steps k)) ≡ false → held ≡ [] → link_in epoch (links_of under.containers) ≡ None
    none-before other empty =
        none-below-other plan is_plan m s.sound k st is under (lane-shown st.down.node st.down.lane under has) epoch from other (ap (list_any (is_unpassed k)) (s.held_is ∙ empty))
