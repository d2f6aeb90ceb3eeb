-- What the run of a whole input needs of a hand.
use Rattle.std.specs.Prelude.{◌≡◌, ◌≤◌, ◌<◌, ℕ, Bool, List, [], length, Some, slice_get}
use Rattle.sb_shown.specs.base.records.declared.item.Record.{Record}
use Rattle.sb_shown.specs.base.records.declared.item.Stream.{Stream}
use Rattle.sb_shown.specs.base.pipeline.declared.transform.Down.{Down}
use Rattle.sb_shown.specs.base.pipeline.Operators.{lanes_of, operator_at}
use Rattle.sb_shown.specs.base.pipeline.Shapes.{Shape, source}
use Rattle.sb_shown.specs.base.pipeline.Plans.{IsPlan}
use Rattle.sb_shown.specs.core.declared.event.Event.{Event}
use Rattle.sb_shown.specs.core.declared.held.Held.{Held}
use Rattle.sb_shown.specs.core.declared.moment.Moment.{Moment}
use Rattle.sb_shown.specs.core.Laws.{IsDone, records_fed_by}
use Rattle.sb_shown.specs.core.Moments.{lane_at}
use Rattle.sb_shown.specs.core.Rest.{IsAtRest}
use Rattle.sb_shown.specs.lane.LaneView.{LaneView, lane_of}
use Rattle.sb_shown.specs.lane.Placed.{conts_of}
use Rattle.sb_shown.specs.lane.Unfinished.{unfinished_of}
use Rattle.sb_shown.specs.tally.Keeping.{feed_by}
use Rattle.sb_shown.specs.tally.Tally.{Feed}
use Rattle.sb_shown.specs.node.declared.state.NodeState.{NodeState}
use Rattle.sb_hand.specs.Feeding.{TakesStream}
use Rattle.sb_hand.specs.Hands.{NoneLeft}
use Rattle.sb_hand.specs.Runs.{IsClosingRun, bundle_events}
use Rattle.sb_shown.specs.Sets.{HasLane}
use Rattle.sb_shown.specs.Showing.{Stands}
use Rattle.sb_hand.specs.Stepping.{IsIdle}

-- nothing is left to do at any node of the plan
abbrev pub AreIdle : Shape → List NodeState → Type 0
AreIdle plan nodes = (k : ℕ) → k ≤ length plan.steps → IsIdle k nodes

-- then the moment that is shown is at rest
abbrev pub IdleIsRest : Type 0
IdleIsRest =
    (plan : Shape) (bundle : ℕ) (nodes : List NodeState) (rows : List Record) (m : Moment)
    → Stands plan bundle nodes [] rows m → AreIdle plan nodes → IsAtRest m

-- and no bundle waits or is out in any lane
abbrev pub IdleIsFinished : Type 0
IdleIsFinished =
    (plan : Shape) → IsPlan plan → (bundle : ℕ) (nodes : List NodeState) (rows : List Record) (m : Moment)
    → Stands plan bundle nodes [] rows m → AreIdle plan nodes
    → (k l : ℕ) (lane : LaneView) → HasLane k l lane nodes → unfinished_of (conts_of lane.containers) ≡ 0

-- the events bring no records and no watermarks of a stream
pub record FeedNothing (events : List Event) : Type 0 where
  pub fed : (fed : Stream → List Record) → records_fed_by events fed ≡ fed
  pub feed : (feed : Feed) → feed_by events feed ≡ feed

-- so it is with those of a bundle that is worked off
abbrev pub BundlesFeedNothing : Type 0
BundlesFeedNothing = (k l number : ℕ) (gave : Bool) → FeedNothing (bundle_events k l number gave)

-- and with those of a whole closing
abbrev pub ClosingsFeedNothing : Type 0
ClosingsFeedNothing =
    (plan : Shape) (k l : ℕ) (events : List Event) → IsClosingRun plan k l events → FeedNothing events

-- the moment has the lane that takes a stream
abbrev pub ShowsSources : Type 0
ShowsSources =
    (plan : Shape) (bundle : ℕ) (nodes : List NodeState) (held : List Held) (rows : List Record) (m : Moment)
    → Stands plan bundle nodes held rows m
    → (stream : Stream) (into : TakesStream plan stream nodes) → lane_at m into.place ≡ Some (lane_of into.lane)

-- each stream that the plan uses is taken, by the lane of its place
abbrev pub TakesSources : Type 0
TakesSources =
    (plan : Shape) (bundle : ℕ) (nodes : List NodeState) (held : List Held) (rows : List Record) (m : Moment)
    → Stands plan bundle nodes held rows m
    → (stream : Stream) (place : Down) → source plan stream ≡ Some place
    → (into : TakesStream plan stream nodes) × (into.place ≡ place)

-- each transform and the sink has its lanes
abbrev pub HasItsLanes : Type 0
HasItsLanes =
    (plan : Shape) (bundle : ℕ) (nodes : List NodeState) (held : List Held) (rows : List Record) (m : Moment)
    → Stands plan bundle nodes held rows m
    → (k l : ℕ) → k ≤ length plan.steps → l < lanes_of (operator_at (slice_get plan.steps k))
    → (lane : LaneView) × HasLane k l lane nodes

-- if the moment is done, no lane has a container
abbrev pub DoneIsEmpty : Type 0
DoneIsEmpty =
    (plan : Shape) (bundle : ℕ) (nodes : List NodeState) (held : List Held) (rows : List Record) (m : Moment)
    → Stands plan bundle nodes held rows m → IsDone plan m → NoneLeft nodes
