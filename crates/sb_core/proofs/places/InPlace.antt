-- A lane that code reads and writes in its place in a moment.
use Rattle.std.proofs.Common.{◌≡◌, ℕ, ◌<◌, ◌≤◌, ◌-◌, ◌^◌, false, cond, List, [], ◌∷◌, ◌++◌, length, get_or, Some, None, Option, refl, sym, ap, subst, ◌∙◌}
use Rattle.std.specs.List.{slice_get, slice_set}
use Rattle.std.proofs.lemmas.Bool.{lt-ltb}
use Rattle.std.proofs.lemmas.List.{set-get_or}
use Rattle.std.proofs.lemmas.Option.{slice_get_read, slice_get_past, slice_get_within, get_or_from_slice_get}
use Rattle.sb_containers.specs.base.records.declared.item.Record.{Record}
use Rattle.sb_containers.specs.base.records.Reading.{◌>>=◌}
use Rattle.sb_containers.specs.base.bundle.declared.bundle.Bundle.{Bundle}
use Rattle.sb_containers.specs.base.pipeline.declared.transform.Down.{Down}
use Rattle.sb_containers.specs.declared.container.CoreLane.{CoreLane}
use Rattle.sb_core.specs.declared.moment.Node.{Node}
use Rattle.sb_core.specs.declared.moment.Moment.{Moment}
use Rattle.sb_core.specs.declared.held.Held.{Held}
use Rattle.sb_core.specs.declared.held.Held.TheVariants.{Work}
use Rattle.sb_core.specs.MomentSteps.{after_take}
use Rattle.sb_core.specs.LaneSteps.{arrived_at, TakesOut}
use Rattle.sb_containers.specs.Lanes.{take_from, with_arrival}
use Rattle.sb_core.specs.Moments.{lane_at, set_lane, set_node, with_lane, with_held}
use Rattle.sb_core.proofs.exact.Gives.{lane_at-parts}

-- an answer that goes on
pub then_some : {A B : Type 0} (o : Option A) (x : A) (f : A → Option B) → o ≡ Some x → (o >>= f) ≡ f x
then_some o x f e = ap (λ o. o >>= f) e

-- an answer that stops
pub then_none : {A B : Type 0} (o : Option A) (f : A → Option B) → o ≡ None → (o >>= f) ≡ None
then_none o f e = ap (λ o. o >>= f) e

-- what is there, written back
slice_set-same : {X : Type 0} (xs : List X) (i : ℕ) (x : X) → slice_get xs i ≡ Some x → slice_set xs i x ≡ xs
slice_set-same xs i x at = ap (slice_set xs i) (sym (get_or_from_slice_get xs i x x at)) ∙ set-get_or xs i x

-- what code reads in a list is there
pub read-there : {X : Type 0} (xs ys : List X) (i : ℕ) (x : X) → xs ≡ ys → i < length xs → x ≡ get_or xs i x → slice_get ys i ≡ Some x
read-there xs ys i x e h at = subst (λ l. slice_get l i ≡ Some x) e (slice_get_read xs (length xs) i x refl h at)

-- where code reads nothing, nothing is
pub read-none : {X : Type 0} (xs ys : List X) (i : ℕ) → xs ≡ ys → length xs ≤ i → slice_get ys i ≡ None
read-none xs ys i e h = subst (λ l. slice_get l i ≡ None) e (slice_get_past xs i h)

-- the place of a lane of a node
abbrev pub place : ℕ → ℕ → Down
place k l = record { node = k; lane = l }

-- a bundle comes into a lane that has room
pub arrived-there : (m : Moment) (d : Down) (epoch floor : ℕ) (records : List Record) (lane : CoreLane) → lane_at m d ≡ Some lane → lane.arrived < 2 ^ 64 - 1
    → arrived_at d epoch floor records m ≡ with_lane d (with_arrival epoch floor records lane) m
arrived-there m d epoch floor records lane at room =
    then_some (lane_at m d) lane _ at ∙ ap (λ b. cond b (with_lane d (with_arrival epoch floor records lane) m) None) (lt-ltb lane.arrived (2 ^ 64 - 1) room)

-- the moment that code leaves, by its parts: a node is written, and other Works and Closes are held
pub node-written : (m : Moment) (bundle : ℕ) (ns ms : List Node) (old held : List Held) (rows : List Record) (k : ℕ) (node : Node)
    → ns ≡ ms → ◌≡◌ {A = Moment} (record { bundle = bundle; nodes = ms; held = old; rows = rows }) m
    → ◌≡◌ {A = Moment} (record { bundle = bundle; nodes = slice_set ns k node; held = held; rows = rows }) (set_node k node (with_held held m))
node-written m bundle ns ms old held rows k node e me =
    λ i. record {
      bundle = (me i).bundle;
      nodes = slice_set ((e ∙ ap (λ (m : Moment). m.nodes) me) i) k node;
      held = held;
      rows = (me i).rows;
    }

-- a node that is there
module _ (m : Moment) (k : ℕ) (node : Node) (at : slice_get m.nodes k ≡ Some node) where
  -- written back as it was
  pub node-same : set_node k node m ≡ m
  node-same = ap (λ ns. record m { nodes = ns }) (slice_set-same m.nodes k node at)

  -- and a lane of it
  module _ (l : ℕ) (lane : CoreLane) (in_it : slice_get node.lanes l ≡ Some lane) where
    -- it is the lane of its place
    pub lane-there : lane_at m (place k l) ≡ Some lane
    lane-there = then_some (slice_get m.nodes k) node _ at ∙ in_it

    -- written back as it was
    pub lane-same : set_node k (set_lane l lane node) m ≡ m
    lane-same = ap (λ ls. set_node k (record node { lanes = ls }) m) (slice_set-same node.lanes l lane in_it) ∙ node-same

    -- a bundle of it is taken
    pub take-done : (number : ℕ) (new : CoreLane) (b : Bundle) → TakesOut number lane new (Some b)
        → after_take m (place k l) number ≡ Some (set_node k (set_lane l new node) (with_held (m.held ++ Work k l b.epoch b.floor number b.records false ∷ []) m))
    take-done number new b t =
        then_some (lane_at m (place k l)) lane _ lane-there
        ∙ then_some (take_from number lane.conts) (b, new.conts) _ t.0
        ∙ then_some (slice_get m.nodes k) node _ at
        ∙ ap (λ lane. Some (set_node k (set_lane l lane node) (with_held (m.held ++ Work k l b.epoch b.floor number b.records false ∷ []) m))) (sym t.1)

    -- no bundle of the number is there
    pub take-none : (number : ℕ) (new : CoreLane) → TakesOut number lane new None → after_take m (place k l) number ≡ None
    take-none number new t = then_some (lane_at m (place k l)) lane _ lane-there ∙ then_none (take_from number lane.conts) _ t.0

-- code's way to a lane that is there: the nodes, a node of them, its lanes, and a lane of these
module _ (m : Moment) (d : Down) {lane : CoreLane} (there : lane_at m d ≡ Some lane) {nodes : List Node} (same : nodes ≡ m.nodes) where
  -- the node is within the nodes
  pub node_within : d.node < length nodes
  node_within = let p = lane_at-parts m d lane there in subst (λ (ns : List Node). d.node < length ns) (sym same) (slice_get_within m.nodes d.node p.0 p.1)

  module _ {node : Node} (is : node ≡ get_or nodes d.node node) where
    -- the node that is read is there
    pub node-read : slice_get m.nodes d.node ≡ Some node
    node-read = read-there nodes m.nodes d.node node same node_within is

    -- the lane is in it
    in_node : slice_get node.lanes d.lane ≡ Some lane
    in_node = sym (then_some (slice_get m.nodes d.node) node (λ node. slice_get node.lanes d.lane) node-read) ∙ there

    module _ {lanes : List CoreLane} (are : lanes ≡ node.lanes) where
      -- and within its lanes
      pub lane_within : d.lane < length lanes
      lane_within = subst (λ (ls : List CoreLane). d.lane < length ls) (sym are) (slice_get_within node.lanes d.lane lane in_node)

      module _ {read : CoreLane} (reads : read ≡ get_or lanes d.lane read) where
        -- the lane that is read is the one
        pub lane-is : read ≡ lane
        lane-is = reads ∙ ap (λ ls. get_or ls d.lane read) are ∙ get_or_from_slice_get node.lanes d.lane lane read in_node

        -- so it is in the node
        pub lane-read : slice_get node.lanes d.lane ≡ Some read
        lane-read = in_node ∙ ap Some (sym lane-is)

        -- written back as it was, the moment is as before
        pub lane-kept : (after : CoreLane) → after ≡ read → ◌≡◌ {A = Moment} (record m { nodes = slice_set nodes d.node (record node { lanes = slice_set lanes d.lane after }) }) m
        lane-kept after e =
            (λ i. record m { nodes = slice_set (same i) d.node (record node { lanes = slice_set (are i) d.lane (e i) }) })
            ∙ lane-same m d.node node node-read d.lane read lane-read

        -- written as another, it is the moment with that lane
        pub lane-written : (after : CoreLane) → with_lane d after m ≡ Some (record m { nodes = slice_set nodes d.node (record node { lanes = slice_set lanes d.lane after }) })
        lane-written after =
            then_some (slice_get m.nodes d.node) node _ node-read
            ∙ sym (λ i. Some (record m { nodes = slice_set (same i) d.node (record node { lanes = slice_set (are i) d.lane after }) }))
