-- Sound moments: what every event keeps.
use Rattle.std.specs.Prelude.{◌≡◌, ℕ, ◌+◌, ◌≤◌, ◌<◌, ◌==◌, Bool, true, false, ◌&&◌, List, [], ◌∷◌, length, count_by, sum_by, Some, slice_get}
use Rattle.std.specs.List.{AllByRecursion, list_any}
use Rattle.sb_containers.specs.base.records.declared.item.Stream.{Stream}
use Rattle.sb_containers.specs.base.records.declared.item.TheConstants.{MAX_TIME}
use Rattle.sb_containers.specs.base.records.Orders.{IsAscending}
use Rattle.sb_containers.specs.base.records.Records.{record_cmp}
use Rattle.sb_containers.specs.base.bundle.declared.bundle.TheConstants.{MAX_BUNDLE}
use Rattle.sb_containers.specs.base.pipeline.declared.transform.Down.{Down}
use Rattle.sb_containers.specs.base.records.declared.element.KeptRec.{KeptRec}
use Rattle.sb_containers.specs.base.pipeline.declared.transform.Step.{Step}
use Rattle.sb_containers.specs.base.pipeline.Shapes.{Shape, source}
use Rattle.sb_containers.specs.base.pipeline.Operators.{Operator, operator_at, lanes_of}
use Rattle.sb_containers.specs.base.pipeline.Operators.Operator.{ParDo, Windowed, Sink}
use Rattle.sb_containers.specs.declared.container.Cont.{Cont}
use Rattle.sb_containers.specs.declared.container.CoreLane.{CoreLane}
use Rattle.sb_core.specs.declared.moment.Moment.{Moment}
use Rattle.sb_core.specs.Bounds.{bound_at}
use Rattle.sb_core.specs.Closings.{is_open}
use Rattle.sb_containers.specs.Lanes.{next_epoch}
use Rattle.sb_containers.specs.Marks.{first_is_closing, begun_count, least_begun_mark}
use Rattle.sb_core.specs.Moments.{lane_at, node_at, floor_at, epoch_at, is_work, is_close, is_close_of}
use Rattle.sb_containers.specs.LaneOrder.{IsLane}
use Rattle.sb_core.specs.Holdings.{IsHeld, IsCloseOf, is_unpassed}

-- how often a container has a bundle of the number out, and in all
abbrev pub out_of : ℕ → Cont → ℕ
out_of n c = count_by (λ x. x == n) c.out

abbrev pub numbers_of : ℕ → Cont → ℕ
numbers_of n c = count_by (λ b. b.number == n) c.waiting + count_by (λ x. x == n) c.out

-- the bundles of a lane that are there have different numbers, of those given
pub record AreNumbered (lane : CoreLane) : Type 0 where
  pub once : (n : ℕ) → sum_by (numbers_of n) lane.conts ≤ 1
  pub given : (n : ℕ) → 1 ≤ sum_by (numbers_of n) lane.conts → (1 ≤ n) × (n ≤ lane.arrived)

-- the lane below a transform is sealed up to the mark that the transform has passed
pub record IsSealedBelow (m : Moment) (k : ℕ) (d : Down) : Type 0 where
  pub further : k < d.node
  pub lane : CoreLane
  pub there : lane_at m d ≡ Some lane
  pub as_many : list_any (is_unpassed k) m.held ≡ false → epoch_at m d ≡ (node_at m k).closings
  pub as_passed : list_any (is_unpassed k) m.held ≡ false → floor_at m d ≡ least_begun_mark (node_at m k).lanes

-- whether a container of the lane has the epoch and the floor
abbrev pub has_cont : ℕ → ℕ → CoreLane → Bool
has_cont epoch floor lane = list_any (λ c. (c.epoch == epoch) && (c.floor == floor)) lane.conts

-- the first list begins the second
abbrev pub Begins : List ℕ → List ℕ → Type 0
Begins [] ms = Unit {0}
Begins (x ∷ xs) [] = ⊥
Begins (x ∷ xs) (m ∷ ms) = (x ≡ m) × Begins xs ms

-- a container that is not sealed, in a stream's lane: of the next epoch, and made by a record, so its floor is a time
abbrev pub IsOpenAtSource : ℕ → ℕ → ℕ → Type 0
IsOpenAtSource next epoch floor = (epoch ≡ next) × (floor ≤ MAX_TIME)

-- a container that is not sealed, below a transform: below a ParDo it has the epoch and the floor of one of the ParDo's
-- own; else it is that of the Close that has not passed its mark
abbrev pub IsOpenBelow : Operator → List CoreLane → Bool → ℕ → ℕ → ℕ → Type 0
IsOpenBelow (ParDo op) lanes unpassed next epoch floor = list_any (has_cont epoch floor) lanes ≡ true
IsOpenBelow (Windowed grouping) lanes unpassed next epoch floor = (unpassed ≡ true) × (epoch ≡ next)
IsOpenBelow Sink lanes unpassed next epoch floor = ⊥

-- an element of what is kept is open at the mark up to which its node has closed, and at the sink not before it
abbrev pub IsKeptAt : Operator → ℕ → ℕ → List KeptRec → KeptRec → Type 0
IsKeptAt (ParDo op) mark bound kept e = ⊥
IsKeptAt (Windowed grouping) mark bound kept e = (is_open grouping mark kept e ≡ true) × (e.rec.time ≤ bound)
IsKeptAt Sink mark bound kept e = (mark ≤ e.rec.time) × (e.rec.time ≤ bound)

-- and so are all
abbrev pub AreKeptAt : Operator → ℕ → ℕ → List KeptRec → Type 0
AreKeptAt o mark bound kept = AllByRecursion (IsKeptAt o mark bound kept) kept

-- all that holds of a moment between two events: of its nodes and lanes, of what is held, of a transform and the lane
-- below it, and of the rows
pub record IsSound (plan : Shape) (m : Moment) : Type 0 where
  -- a node for each transform and the sink, each with its lanes, and a size of bundles
  pub nodes : length m.nodes ≡ length plan.steps + 1
  pub lanes_there : (k : ℕ) → k ≤ length plan.steps
      → length (node_at m k).lanes ≡ lanes_of (operator_at (slice_get plan.steps k))
  pub bundle : (1 ≤ m.bundle) × (m.bundle ≤ MAX_BUNDLE)
  -- each lane: its marks and containers in order, its bundles numbered, and those out are held
  pub lanes : (d : Down) (lane : CoreLane) → lane_at m d ≡ Some lane → IsLane (bound_at plan d.node) lane
  pub numbers : (d : Down) (lane : CoreLane) → lane_at m d ≡ Some lane → AreNumbered lane
  pub outs : (d : Down) (lane : CoreLane) → lane_at m d ≡ Some lane
      → (n : ℕ) → sum_by (out_of n) lane.conts ≡ count_by (is_work d.node d.lane n) m.held
  -- each node: how many closings it has begun, what it keeps, and at most one Close, held exactly while a container is
  -- closing
  pub closings : (k : ℕ) → (node_at m k).closings ≡ sum_by begun_count (node_at m k).lanes
  pub kept : (k : ℕ)
      → AreKeptAt (operator_at (slice_get plan.steps k)) (least_begun_mark (node_at m k).lanes) (bound_at plan k)
      (node_at m k).kept
  pub one_close : (k : ℕ) → count_by (is_close k) m.held ≤ 1
  pub closing_held : (d : Down) (lane : CoreLane) → lane_at m d ≡ Some lane
      → first_is_closing lane.conts ≡ true → list_any (is_close_of d.node d.lane) m.held ≡ true
  -- each Work and each Close
  pub holds : AllByRecursion (IsHeld plan m) m.held
  pub closes : AllByRecursion (IsCloseOf plan m) m.held
  -- each source lane: it is there, and which containers it has that are not sealed
  pub sources : (s : Stream) (d : Down) → source plan s ≡ Some d → (lane : CoreLane) × (lane_at m d ≡ Some lane)
  pub open_source : (s : Stream) (d : Down) (lane : CoreLane) → source plan s ≡ Some d → lane_at m d ≡ Some lane
      → AllByRecursion (λ c. next_epoch lane ≤ c.epoch → IsOpenAtSource (next_epoch lane) c.epoch c.floor) lane.conts
  -- each transform and the lane below it: how far that is sealed, which containers it has that are not, and, below a
  -- node of one lane, whose marks its marks are
  pub below : (k : ℕ) (s : Step) → slice_get plan.steps k ≡ Some s → IsSealedBelow m k s.down
  pub open_below : (k : ℕ) (s : Step) (lane : CoreLane) → slice_get plan.steps k ≡ Some s → lane_at m s.down ≡ Some lane
      → AllByRecursion (λ c. next_epoch lane ≤ c.epoch
      → IsOpenBelow (operator_at (slice_get plan.steps k)) (node_at m k).lanes (list_any (is_unpassed k) m.held)
      (next_epoch lane) c.epoch c.floor) lane.conts
  pub own_marks : (k : ℕ) (s : Step) (lane own : CoreLane) → slice_get plan.steps k ≡ Some s
      → lane_at m s.down ≡ Some lane → (node_at m k).lanes ≡ own ∷ [] → Begins lane.marks own.marks
  -- the rows: sorted, and before the mark up to which the sink has closed
  pub sorted : IsAscending record_cmp m.rows
  pub written : AllByRecursion (λ r. r.time < least_begun_mark (node_at m (length plan.steps)).lanes) m.rows
