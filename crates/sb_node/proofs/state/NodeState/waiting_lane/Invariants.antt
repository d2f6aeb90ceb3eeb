use Rattle.std.proofs.Common.{ℕ, ◌<◌, get_or}
use Rattle.sb_lane.specs.LaneView.{LaneView}
use Rattle.sb_node.specs.Looking.{NoneWaits}
use Rattle.sb_node.proofs.state.NodeState.waiting_lane.Given as goal

abbrev pub invariant-loop-lane : goal.invariant-loop-lane
invariant-loop-lane l = (k : ℕ) (d : LaneView) → k < l.lane → NoneWaits (get_or l.self.lanes.items k d)
