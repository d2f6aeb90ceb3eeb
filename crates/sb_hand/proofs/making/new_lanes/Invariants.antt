use Rattle.std.proofs.Common.{◌≡◌}
use Rattle.std.specs.Prelude.{replicate}
use Rattle.sb_shown.specs.lane.LaneView.{empty_lane}
use Rattle.sb_hand.proofs.making.new_lanes.Given as goal

abbrev pub invariant-loop-lane : goal.invariant-loop-lane
invariant-loop-lane l = l.lanes.items ≡ replicate l._lane (empty_lane l.pending)
