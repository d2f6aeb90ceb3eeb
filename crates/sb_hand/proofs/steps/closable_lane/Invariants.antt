use Rattle.std.proofs.Common.{ℕ, ◌<◌, get_or}
use Rattle.sb_shown.specs.lane.LaneView.{LaneView}
use Rattle.sb_shown.specs.node.Looking.{CannotClose}
use Rattle.sb_hand.proofs.steps.closable_lane.Given as goal

abbrev pub invariant-loop-lane : goal.invariant-loop-lane
invariant-loop-lane l = (k : ℕ) (d : LaneView) → k < l.lane → CannotClose (get_or l.lanes k d)
