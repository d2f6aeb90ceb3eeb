-- What a step of a node does.
use Rattle.std.specs.Prelude.{◌≡◌, ℕ, true, is_some, List, All, Some, Ok, slice_get}
use Rattle.sb_shown.specs.base.records.declared.item.Record.{Record}
use Rattle.sb_shown.specs.base.pipeline.Shapes.{Shape}
use Rattle.sb_shown.specs.lane.declared.answers.LaneClose.{LaneClose}
use Rattle.sb_shown.specs.lane.Looks.{look_of}
use Rattle.sb_shown.specs.lane.LaneView.{LaneView}
use Rattle.sb_shown.specs.lane.Placed.{conts_of}
use Rattle.sb_shown.specs.lane.Taking.{take_first}
use Rattle.sb_hand.specs.declared.did.Did.{Did}
use Rattle.sb_hand.specs.declared.did.Did.TheVariants.{Bundle, Closing, Nothing}
use Rattle.sb_shown.specs.node.declared.state.NodeState.{NodeState}
use Rattle.sb_shown.specs.node.Looking.{CannotClose, NoneWaits}
use Rattle.sb_hand.specs.Runs.{WorksOff, ClosesNode}
use Rattle.sb_shown.specs.Sets.{HasLane}

-- nothing waits in a lane of the node, and none of its closings can begin
pub record IsIdle (k : ℕ) (nodes : List NodeState) : Type 0 where
  pub own : NodeState
  pub there : slice_get nodes k ≡ Some own
  pub waits : All NoneWaits own.lanes.items
  pub closes : All CannotClose own.lanes.items

-- a bundle waits in a lane of the node
pub record WaitsIn (k l : ℕ) (nodes : List NodeState) : Type 0 where
  pub lane : LaneView
  pub has : HasLane k l lane nodes
  pub waits : is_some (take_first (conts_of lane.containers)) ≡ true

-- nothing waits in the node, and the oldest container of a lane can close
pub record ClosesIn (k l : ℕ) (nodes : List NodeState) : Type 0 where
  pub lane : LaneView
  pub has : HasLane k l lane nodes
  pub none : All NoneWaits has.own.lanes.items
  pub close : LaneClose
  pub looks : look_of (conts_of lane.containers) ≡ Ok close

-- a step worked a bundle off, or made a whole closing, or found nothing to do
abbrev pub Steps : Shape → ℕ → ℕ → List NodeState → List Record → List NodeState → List Record → Did → Type 0
Steps plan bundle k old tray new later Bundle =
    (l : ℕ) × WaitsIn k l old × WorksOff plan bundle k l old new × (later ≡ tray)
Steps plan bundle k old tray new later Closing =
    (l : ℕ) × ClosesIn k l old × ClosesNode plan bundle k l old tray new later
Steps plan bundle k old tray new later Nothing = IsIdle k old × (new ≡ old) × (later ≡ tray)
