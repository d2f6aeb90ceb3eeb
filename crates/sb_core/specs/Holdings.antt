-- What holds of each Work and each Close.
use Rattle.std.specs.Prelude.{◌≡◌, ℕ, ◌+◌, ◌<◌, ◌≤◌, ◌==◌, Bool, true, false, not, ◌&&◌, List, [], Some, slice_get}
use Rattle.std.specs.List.{AllByRecursion, list_any}
use Rattle.sb_containers.specs.base.records.declared.item.Record.{Record}
use Rattle.sb_containers.specs.base.records.Orders.{IsAscending}
use Rattle.sb_containers.specs.base.records.Records.{record_cmp}
use Rattle.sb_containers.specs.base.window.declared.windows.TheConstants.{MAX_SIZE}
use Rattle.sb_containers.specs.base.pipeline.declared.transform.Step.{Step}
use Rattle.sb_containers.specs.base.pipeline.Shapes.{Shape}
use Rattle.sb_containers.specs.base.pipeline.Operators.{operator_at}
use Rattle.sb_containers.specs.declared.container.Cont.{Cont}
use Rattle.sb_containers.specs.declared.container.CoreLane.{CoreLane}
use Rattle.sb_core.specs.declared.moment.Moment.{Moment}
use Rattle.sb_core.specs.declared.held.Held.{Held}
use Rattle.sb_core.specs.declared.held.Held.TheVariants.{Work, Close}
use Rattle.sb_core.specs.Bounds.{bound_at}
use Rattle.sb_containers.specs.Marks.{first_is_closing, least_begun_mark, before_closing}
use Rattle.sb_core.specs.Moments.{lane_at, node_at, floor_at, epoch_at}
use Rattle.sb_core.specs.Closings.{is_pardo, is_sink}
use Rattle.sb_containers.specs.LaneOrder.{IsWithin, cont_at}

-- a Work is of a container that is there, with its epoch and floor, and is out of it; only that of a ParDo is delivered
pub record IsWork (plan : Shape) (m : Moment) (k l epoch floor number : ℕ) (records : List Record) (delivered : Bool)
    : Type 0 where
  pub lane : CoreLane
  pub there : lane_at m (record { node = k; lane = l }) ≡ Some lane
  pub cont : Cont
  pub of_epoch : cont_at epoch lane.conts ≡ Some cont
  pub floor_is : cont.floor ≡ floor
  pub is_out : list_any (λ n. n == number) cont.out ≡ true
  pub times : IsWithin floor (bound_at plan k) records
  pub only_pardo : delivered ≡ true → is_pardo (operator_at (slice_get plan.steps k)) ≡ true

-- a Close is of the first container of its lane, which is closing; while it is not passed, the lane below has its floor
-- and its serial for its next epoch
pub record IsClosing (plan : Shape) (m : Moment) (k l epoch serial floor mark : ℕ) (rows : List Record) (passed : Bool)
    : Type 0 where
  pub lane : CoreLane
  pub there : lane_at m (record { node = k; lane = l }) ≡ Some lane
  pub closing : first_is_closing lane.conts ≡ true
  pub epoch_is : epoch ≡ lane.ended
  pub mark_is : mark ≡ least_begun_mark (node_at m k).lanes
  pub rises : floor ≤ mark
  pub serial_is : serial + 1 ≡ (node_at m k).closings
  pub times : IsWithin floor (bound_at plan k + MAX_SIZE) rows
  pub before_mark : AllByRecursion (λ r. r.time < mark) rows
  pub no_rows : passed ≡ true → rows ≡ []
  pub under : passed ≡ false → (s : Step) → slice_get plan.steps k ≡ Some s → floor_at m s.down ≡ floor
  pub next_under : passed ≡ false → (s : Step) → slice_get plan.steps k ≡ Some s → epoch_at m s.down ≡ serial

abbrev pub IsHeld : Shape → Moment → Held → Type 0
IsHeld plan m (Work k l epoch floor number records delivered) = IsWork plan m k l epoch floor number records delivered
IsHeld plan m (Close k l epoch serial floor mark rows passed) = IsClosing plan m k l epoch serial floor mark rows passed

-- whether it is a Close of the node that has not passed its mark
abbrev pub is_unpassed : ℕ → Held → Bool
is_unpassed k (Work node l epoch floor number records delivered) = false
is_unpassed k (Close node l epoch serial floor mark rows passed) = (node == k) && not passed

-- a Close's rows are sorted, and its floor is where its node had closed before it; the sink's counts as passed, and a
-- ParDo's has no rows
abbrev pub IsCloseOf : Shape → Moment → Held → Type 0
IsCloseOf plan m (Work k l epoch floor number records delivered) = Unit {0}
IsCloseOf plan m (Close k l epoch serial floor mark rows passed) =
    (IsAscending record_cmp rows
    × ((is_sink (operator_at (slice_get plan.steps k)) ≡ true → passed ≡ true)
    × (is_pardo (operator_at (slice_get plan.steps k)) ≡ true → rows ≡ [])))
    × (floor ≡ before_closing (node_at m k).lanes)
