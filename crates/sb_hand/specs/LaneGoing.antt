-- What becomes of a lane of a node, whatever it was.
use Rattle.std.specs.Prelude.{ℕ, List}
use Rattle.sb_shown.specs.lane.LaneView.{LaneView}
use Rattle.sb_shown.specs.node.declared.state.NodeState.{NodeState}
use Rattle.sb_shown.specs.Sets.{HasLane}

-- lane l of node k becomes another so
abbrev pub LaneGoes : ℕ → ℕ → (LaneView → LaneView → Type 0) → List NodeState → List NodeState → Type 0
LaneGoes k l so old new = (was is : LaneView) → HasLane k l was old → HasLane k l is new → so was is
