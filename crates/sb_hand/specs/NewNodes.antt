-- Nodes to which nothing has come.
use Rattle.std.specs.Prelude.{◌≡◌, ℕ, Bool, List, [], length, replicate, Some, slice_get}
use Rattle.sb_shown.specs.base.pipeline.Operators.{Operator, lanes_of, operator_at}
use Rattle.sb_shown.specs.base.pipeline.Shapes.{Shape}
use Rattle.sb_shown.specs.node.Keeping.{IsSpent, IsMadeFor, ShowsKept, closed_mark}
use Rattle.sb_shown.specs.lane.LaneView.{empty_lane}
use Rattle.sb_shown.specs.node.declared.state.NodeState.{NodeState}

-- its lanes and its diary are empty, and it keeps nothing
pub record IsNewNode (op : Operator) (pending : ℕ) (keeps : Bool) (own : NodeState) : Type 0 where
  pub lanes : own.lanes.items ≡ replicate (lanes_of op) (empty_lane pending)
  pub made : IsMadeFor op own.kept
  pub unspent : IsSpent own.kept → ⊥
  pub closed_is : closed_mark own.kept ≡ 0
  pub kept : ShowsKept op own.kept []
  pub closings : own.closings ≡ 0
  pub diary : own.diary.events ≡ []
  pub keeps_is : own.diary.keeps ≡ keeps

-- the first nodes of a plan, so many
pub record AreNewNodes (plan : Shape) (pending : ℕ) (keeps : Bool) (count : ℕ) (nodes : List NodeState) : Type 0 where
  pub count_is : length nodes ≡ count
  pub each : (k : ℕ) (own : NodeState) → slice_get nodes k ≡ Some own
      → IsNewNode (operator_at (slice_get plan.steps k)) pending keeps own
