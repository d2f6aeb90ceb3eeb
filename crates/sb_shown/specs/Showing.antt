-- What the state of a node shows of a moment, and what all nodes show.
use Rattle.std.specs.Prelude.{◌≡◌, ℕ, Bool, List, [], ◌∷◌, ◌++◌, length, map, replicate, Some, slice_get}
use Rattle.sb_node.specs.base.records.declared.item.Record.{Record}
use Rattle.sb_node.specs.base.pipeline.Shapes.{Shape}
use Rattle.sb_node.specs.base.pipeline.Operators.{Operator, lanes_of, operator_at, operator_of}
use Rattle.sb_node.specs.base.pipeline.Operators.Operator.{Sink}
use Rattle.sb_tally.specs.core.declared.moment.Node.{Node}
use Rattle.sb_tally.specs.core.declared.moment.Moment.{Moment}
use Rattle.sb_tally.specs.core.declared.held.Held.{Held}
use Rattle.sb_tally.specs.core.declared.event.Event.{Event}
use Rattle.sb_tally.specs.core.Events.{run}
use Rattle.sb_tally.specs.core.containers.Marks.{least_begun_mark}
use Rattle.sb_tally.specs.core.Soundness.{IsSound}
use Rattle.sb_node.specs.diary.declared.event.DiaryEvent.{DiaryEvent}
use Rattle.sb_tally.specs.Keeping.{diaries_by}
use Rattle.sb_node.specs.lane.LaneView.{lane_of}
use Rattle.sb_node.specs.declared.kept.Kept.{Kept}
use Rattle.sb_node.specs.Keeping.{IsSpent, IsMadeFor, ShowsKept, closed_mark}
use Rattle.sb_node.specs.declared.state.NodeState.{NodeState}

-- what is kept is any list that the node's grouping stands for
pub record IsKept (op : Operator) (k : Kept) (n : Node) : Type 0 where
  pub made : IsMadeFor op k
  pub unspent : IsSpent k → ⊥
  pub closed_is : closed_mark k ≡ least_begun_mark n.lanes
  pub kept : ShowsKept op k n.kept

pub record ShowsNode (op : Operator) (own : NodeState) (n : Node) : Type 0 where
  pub lanes : n.lanes ≡ map lane_of own.lanes.items
  pub closings : n.closings ≡ own.closings
  pub kept : IsKept op own.kept n

-- the moment has these nodes, this in hand and these rows, and is sound
pub record Stands (plan : Shape) (bundle : ℕ) (nodes : List NodeState) (held : List Held) (rows : List Record)
    (m : Moment) : Type 0 where
  pub bundle_is : m.bundle ≡ bundle
  pub count : length m.nodes ≡ length nodes
  pub each : (k : ℕ) (own : NodeState) (n : Node) → slice_get nodes k ≡ Some own → slice_get m.nodes k ≡ Some n
      → ShowsNode (operator_at (slice_get plan.steps k)) own n
  pub held_is : m.held ≡ held
  pub rows_is : m.rows ≡ rows
  pub sound : IsSound plan m

-- there is such a moment
pub record CanStand (plan : Shape) (bundle : ℕ) (nodes : List NodeState) (held : List Held) : Type 0 where
  pub rows : List Record
  pub moment : Moment
  pub stands : Stands plan bundle nodes held rows moment

-- the lines of the diaries of all nodes
abbrev pub diaries_of : List NodeState → List (List DiaryEvent)
diaries_of nodes = map (λ n. n.diary.events) nodes

-- a later moment, with a line for each event in the diaries that were these
pub record Reaches (plan : Shape) (bundle : ℕ) (events : List Event) (m : Moment) (diaries : List (List DiaryEvent))
    (nodes : List NodeState) (held : List Held) (rows : List Record) : Type 0 where
  pub later : Moment
  pub runs : run plan events m ≡ Some later
  pub told : diaries_of nodes ≡ diaries_by plan events m diaries
  pub stands : Stands plan bundle nodes held rows later

-- whatever moment the old nodes show, these events lead to one that the new nodes show, with these rows more
abbrev pub Does : Shape → ℕ → List Event
    → List NodeState → List Held → List NodeState → List Held → List Record → Type 0
Does plan bundle events old held new later added =
    (rows : List Record) (m : Moment) → Stands plan bundle old held rows m
    → Reaches plan bundle events m (diaries_of old) new later (rows ++ added)

-- what a node was made with: whether its diary keeps its lines, and from how many unfinished bundles on each lane
-- refuses arrivals
pub record Settings : Type 0 where
  pub keeps : Bool
  pub limits : List ℕ

abbrev pub settings_of : List NodeState → List Settings
settings_of nodes = map (λ n. record { keeps = n.diary.keeps; limits = map (λ l. l.pending) n.lanes.items }) nodes

-- what the node of an operator is made with
abbrev pub settings_for : Bool → ℕ → Operator → Settings
settings_for keeps pending op = record { keeps = keeps; limits = replicate (lanes_of op) pending }

-- what all nodes of a plan are made with: the transforms, and the sink
abbrev pub settings_at : Bool → ℕ → Shape → List Settings
settings_at keeps pending plan =
    map (λ s. settings_for keeps pending (operator_of s.kind)) plan.steps ++ settings_for keeps pending Sink ∷ []
