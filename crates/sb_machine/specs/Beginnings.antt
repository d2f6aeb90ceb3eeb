-- What a closing is to change, found before anything is changed.
use Rattle.std.specs.Prelude.{◌≡◌, ◌<◌, ◌-◌, ◌^◌, ℕ, false, Some, slice_get}
use Rattle.std.specs.List.{list_any}
use Rattle.sb_slow.specs.base.pipeline.Shapes.{Shape}
use Rattle.sb_slow.specs.base.pipeline.Operators.{operator_at}
use Rattle.sb_machine.specs.declared.begin.Closing.{Closing}
use Rattle.sb_core.specs.containers.declared.container.Cont.{Cont}
use Rattle.sb_core.specs.containers.declared.container.CoreLane.{CoreLane}
use Rattle.sb_core.specs.declared.moment.Moment.{Moment}
use Rattle.sb_core.specs.declared.moment.Node.{Node}
use Rattle.sb_core.specs.Closings.{kept_at, rows_at, rows_at_sink, is_sink}
use Rattle.sb_core.specs.containers.Lanes.{closable, with_first_closing}
use Rattle.sb_core.specs.containers.Marks.{least_begun_mark}
use Rattle.sb_core.specs.Moments.{is_close, set_lane}

-- the closing of the lane's oldest container may begin, and this is its epoch, its serial, after which there is one
-- more number, its floor, its mark, its rows, what stays kept, what the sink adds to the rows, and whether it is the
-- sink's, which has no mark to pass
pub record IsBeginningOf (plan : Shape) (m : Moment) (k l : ℕ) (closing : Closing) : Type 0 where
  pub node : Node
  pub there : slice_get m.nodes k ≡ Some node
  pub lane : CoreLane
  pub in_it : slice_get node.lanes l ≡ Some lane
  pub cont : Cont
  pub closes : closable lane.ended lane.conts ≡ Some cont
  pub idle : list_any (is_close k) m.held ≡ false
  pub epoch : closing.epoch ≡ cont.epoch
  pub serial : closing.serial ≡ node.closings
  pub next_fits : closing.serial < 2 ^ 64 - 1
  pub floor : closing.floor ≡ least_begun_mark node.lanes
  pub mark : closing.mark
      ≡ least_begun_mark (set_lane l (record lane { conts = with_first_closing lane.conts }) node).lanes
  pub rows : closing.rows ≡ rows_at (operator_at (slice_get plan.steps k)) closing.floor closing.mark node.kept
  pub kept : closing.kept ≡ kept_at (operator_at (slice_get plan.steps k)) closing.mark node.kept
  pub collected : closing.collected ≡ rows_at_sink (operator_at (slice_get plan.steps k)) closing.mark node.kept
  pub passed : closing.passed ≡ is_sink (operator_at (slice_get plan.steps k))
