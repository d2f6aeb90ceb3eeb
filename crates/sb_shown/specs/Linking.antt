-- How the containers of a transform of single records are linked to those below that take their output.
use Rattle.std.specs.Prelude.{◌≡◌, ◌≤◌, ℕ, true, List, length, Option, Some, None, slice_get}
use Rattle.std.specs.Option.{option_map}
use Rattle.sb_node.specs.base.pipeline.declared.transform.Step.{Step}
use Rattle.sb_node.specs.base.pipeline.Shapes.{Shape}
use Rattle.sb_node.specs.base.pipeline.Operators.{operator_at}
use Rattle.sb_tally.specs.core.Closings.{is_pardo}
use Rattle.sb_node.specs.lane.Changes.{StandsAt}
use Rattle.sb_node.specs.lane.LaneView.{LaneView, link_at}
use Rattle.sb_node.specs.lane.Links.{Link, link_in, links_of}
use Rattle.sb_node.specs.declared.state.NodeState.{NodeState}
use Rattle.sb_shown.specs.Searching.{SearchesFew}
use Rattle.sb_shown.specs.Sets.{HasLane}

-- the place of the container of an epoch, if there is one
abbrev pub place_in : ℕ → List Link → Option ℕ
place_in epoch links = option_map (λ k. k.place) (link_in epoch links)

-- a container whose epoch is not sealed in the lane below is linked to the place of the epoch's container there, if
-- there is one
abbrev pub LeadsTo : LaneView → LaneView → Type 0
LeadsTo own under =
    (epoch : ℕ) (link : Link) → link_at epoch own ≡ Some link → length under.marks ≤ epoch
    → link.down ≡ place_in epoch (links_of under.containers)

-- the lane of each transform of single records leads to the lane below
pub record AreLinked (plan : Shape) (nodes : List NodeState) : Type 0 where
  pub leads : (k : ℕ) (s : Step) (own under : LaneView) → slice_get plan.steps k ≡ Some s
      → is_pardo (operator_at (slice_get plan.steps k)) ≡ true
      → HasLane k 0 own nodes → HasLane s.down.node s.down.lane under nodes → LeadsTo own under

-- the lane below a transform has a container of the epoch at this place; it has none
abbrev pub StandsBelow : Shape → ℕ → ℕ → ℕ → List NodeState → Type 0
StandsBelow plan k epoch place nodes =
    (s : Step) (under : LaneView) → slice_get plan.steps k ≡ Some s → HasLane s.down.node s.down.lane under nodes
    → StandsAt epoch place under.containers

abbrev pub NoneBelow : Shape → ℕ → ℕ → List NodeState → Type 0
NoneBelow plan k epoch nodes =
    (s : Step) (under : LaneView) → slice_get plan.steps k ≡ Some s → HasLane s.down.node s.down.lane under nodes
    → link_at epoch under ≡ None

-- the nodes are linked, and few searches were made
pub record KeepsLinks (plan : Shape) (old new : List NodeState) : Type 0 where
  pub linked : AreLinked plan new
  pub searches : SearchesFew old new
