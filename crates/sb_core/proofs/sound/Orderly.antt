-- The state invariant in two halves: what the law of a single event needs, and what is kept beside it.
use Rattle.std.proofs.Common.{◌≡◌, ℕ, suc, zero, ◌+◌, ◌≤◌, ◌<◌, true, List, [], ◌∷◌, length, Some, refl, ◌∙◌, arith}
use Rattle.std.specs.Prelude.{count_by}
use Rattle.std.specs.List.{slice_get, sum_by, list_any, AllByRecursion}
use Rattle.sb_containers.specs.base.records.declared.item.Stream.{Stream}
use Rattle.sb_containers.specs.base.records.Orders.{IsAscending}
use Rattle.sb_containers.specs.base.records.Records.{record_cmp}
use Rattle.sb_containers.specs.base.bundle.declared.bundle.TheConstants.{MAX_BUNDLE}
use Rattle.sb_containers.specs.base.pipeline.declared.transform.Down.{Down}
use Rattle.sb_containers.specs.base.pipeline.declared.transform.Step.{Step}
use Rattle.sb_core.specs.Soundness.{IsOpenAtSource, IsSealedBelow, out_of, AreNumbered, IsOpenBelow, AreKeptAt, Begins, IsSound}
use Rattle.sb_containers.specs.base.pipeline.Shapes.{Shape, source}
use Rattle.sb_containers.specs.base.pipeline.Operators.{Operator, operator_of, operator_at, lanes_of}
use Rattle.sb_containers.specs.base.pipeline.Operators.Operator.{ParDo, Windowed, Sink}
use Rattle.sb_containers.specs.declared.container.CoreLane.{CoreLane}
use Rattle.sb_core.specs.declared.moment.Moment.{Moment}
use Rattle.sb_core.specs.Bounds.{bound_at}
use Rattle.sb_containers.specs.Lanes.{next_epoch}
use Rattle.sb_containers.specs.Marks.{first_is_closing, begun_count, least_begun_mark}
use Rattle.sb_core.specs.Moments.{lane_at, node_at, is_work, is_close, is_close_of}
use Rattle.sb_core.specs.Closings.{is_pardo}
use Rattle.sb_containers.specs.LaneOrder.{IsLane}
use Rattle.sb_core.specs.Holdings.{IsHeld, IsCloseOf, is_unpassed}

pub record IsLawful (plan : Shape) (m : Moment) : Type 0 where
  pub nodes : length m.nodes ≡ length plan.steps + 1
  pub lanes : (d : Down) (lane : CoreLane) → lane_at m d ≡ Some lane → IsLane (bound_at plan d.node) lane
  pub one_lane : (k : ℕ) → is_pardo (operator_at (slice_get plan.steps k)) ≡ true → length (node_at m k).lanes ≡ 1
  pub holds : AllByRecursion (IsHeld plan m) m.held
  pub one_close : (k : ℕ) → count_by (is_close k) m.held ≤ 1
  pub closing_held : (d : Down) (lane : CoreLane) → lane_at m d ≡ Some lane → first_is_closing lane.conts ≡ true → list_any (is_close_of d.node d.lane) m.held ≡ true
  pub below : (k : ℕ) (s : Step) → slice_get plan.steps k ≡ Some s → IsSealedBelow m k s.down
  pub closings : (k : ℕ) → (node_at m k).closings ≡ sum_by begun_count (node_at m k).lanes
  pub sources : (s : Stream) (d : Down) → source plan s ≡ Some d → (lane : CoreLane) × (lane_at m d ≡ Some lane)

pub record IsTidy (plan : Shape) (m : Moment) : Type 0 where
  pub bundle : (1 ≤ m.bundle) × (m.bundle ≤ MAX_BUNDLE)
  pub lanes : (k : ℕ) → k ≤ length plan.steps → length (node_at m k).lanes ≡ lanes_of (operator_at (slice_get plan.steps k))
  pub numbers : (d : Down) (lane : CoreLane) → lane_at m d ≡ Some lane → AreNumbered lane
  pub outs : (d : Down) (lane : CoreLane) → lane_at m d ≡ Some lane → (n : ℕ) → sum_by (out_of n) lane.conts ≡ count_by (is_work d.node d.lane n) m.held
  pub open_source : (s : Stream) (d : Down) (lane : CoreLane) → source plan s ≡ Some d → lane_at m d ≡ Some lane → AllByRecursion (λ c. next_epoch lane ≤ c.epoch → IsOpenAtSource (next_epoch lane) c.epoch c.floor) lane.conts
  pub open_below : (k : ℕ) (s : Step) (lane : CoreLane) → slice_get plan.steps k ≡ Some s → lane_at m s.down ≡ Some lane
      → AllByRecursion (λ c. next_epoch lane ≤ c.epoch → IsOpenBelow (operator_at (slice_get plan.steps k)) (node_at m k).lanes (list_any (is_unpassed k) m.held) (next_epoch lane) c.epoch c.floor) lane.conts
  pub own_marks : (k : ℕ) (s : Step) (lane own : CoreLane) → slice_get plan.steps k ≡ Some s → lane_at m s.down ≡ Some lane → (node_at m k).lanes ≡ own ∷ [] → Begins lane.marks own.marks
  pub kept : (k : ℕ) → AreKeptAt (operator_at (slice_get plan.steps k)) (least_begun_mark (node_at m k).lanes) (bound_at plan k) (node_at m k).kept
  pub closes : AllByRecursion (IsCloseOf plan m) m.held
  pub sorted : IsAscending record_cmp m.rows
  pub written : AllByRecursion (λ r. r.time < least_begun_mark (node_at m (length plan.steps)).lanes) m.rows

-- a ParDo is no sink, so its node is a transform's
pardo-is : (steps : List Step) (k : ℕ) → is_pardo (operator_at (slice_get steps k)) ≡ true → (k ≤ length steps) × (lanes_of (operator_at (slice_get steps k)) ≡ 1)
pardo-is [] k h = cc
pardo-is (s ∷ steps) zero h = (omega arith, one (operator_of s.kind) h)
  where
    one : (o : Operator) → is_pardo o ≡ true → lanes_of o ≡ 1
    one (ParDo op) h = refl
    one (Windowed grouping) h = cc
    one Sink h = cc
pardo-is (s ∷ steps) (suc k) h = let r : (k ≤ length steps) × (lanes_of (operator_at (slice_get steps k)) ≡ 1) = pardo-is steps k h in (omega (arith, r.0), r.1)

pub lawful_of : {plan : Shape} {m : Moment} → IsSound plan m → IsLawful plan m
lawful_of {plan} {m} sound = record {
  nodes = sound.nodes;
  lanes = sound.lanes;
  one_lane = λ k h. let r : (k ≤ length plan.steps) × (lanes_of (operator_at (slice_get plan.steps k)) ≡ 1) = pardo-is plan.steps k h in sound.lanes_there k r.0 ∙ r.1;
  holds = sound.holds;
  one_close = sound.one_close;
  closing_held = sound.closing_held;
  below = sound.below;
  closings = sound.closings;
  sources = sound.sources;
}

pub tidy_of : {plan : Shape} {m : Moment} → IsSound plan m → IsTidy plan m
tidy_of {plan} {m} sound = record {
  bundle = sound.bundle;
  lanes = sound.lanes_there;
  numbers = sound.numbers;
  outs = sound.outs;
  open_source = sound.open_source;
  open_below = sound.open_below;
  own_marks = sound.own_marks;
  kept = sound.kept;
  closes = sound.closes;
  sorted = sound.sorted;
  written = sound.written;
}

-- both halves
pub record IsBoth (plan : Shape) (m : Moment) : Type 0 where
  pub lawful : IsLawful plan m
  pub tidy : IsTidy plan m

pub sound_of : {plan : Shape} {m : Moment} → IsBoth plan m → IsSound plan m
sound_of {plan} {m} both = record {
  nodes = both.lawful.nodes;
  lanes_there = both.tidy.lanes;
  bundle = both.tidy.bundle;
  lanes = both.lawful.lanes;
  numbers = both.tidy.numbers;
  outs = both.tidy.outs;
  closings = both.lawful.closings;
  kept = both.tidy.kept;
  one_close = both.lawful.one_close;
  closing_held = both.lawful.closing_held;
  holds = both.lawful.holds;
  closes = both.tidy.closes;
  sources = both.lawful.sources;
  open_source = both.tidy.open_source;
  below = both.lawful.below;
  open_below = both.tidy.open_below;
  own_marks = both.tidy.own_marks;
  sorted = both.tidy.sorted;
  written = both.tidy.written;
}
