-- How much is left to do at a node: bundles that wait, and epochs that are sealed and have not ended.
use Rattle.std.specs.Prelude.{◌≡◌, ℕ, ◌+◌, ◌-◌, ◌≤◌, ◌<◌, List, length, sum_by, Option, Some, None, slice_get}
use Rattle.sb_shown.specs.core.containers.declared.container.Cont.{Cont}
use Rattle.sb_shown.specs.core.containers.declared.container.CoreLane.{CoreLane}
use Rattle.sb_shown.specs.lane.LaneView.{LaneView, lane_of}
use Rattle.sb_shown.specs.node.declared.state.NodeState.{NodeState}

abbrev pub waiting_in : Cont → ℕ
waiting_in c = length c.waiting

abbrev pub todo_lane : CoreLane → ℕ
todo_lane lane = sum_by waiting_in lane.conts + (length lane.marks - lane.ended)

abbrev pub todo_seen : LaneView → ℕ
todo_seen lane = todo_lane (lane_of lane)

abbrev pub todo_of : Option NodeState → ℕ
todo_of None = 0
todo_of (Some own) = sum_by todo_seen own.lanes.items

abbrev pub todo_at : ℕ → List NodeState → ℕ
todo_at k nodes = todo_of (slice_get nodes k)

-- so much less is left at a node, and the nodes before it are as they were
pub record Lowers (k less : ℕ) (old new : List NodeState) : Type 0 where
  pub todo : todo_at k new + less ≤ todo_at k old
  pub earlier : (j : ℕ) → j < k → slice_get new j ≡ slice_get old j
