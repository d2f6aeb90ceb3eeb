-- Moments: the whole state of the engine between two events.
use Rattle.std.specs.Prelude.{ℕ, ◌==◌, Bool, false, ◌&&◌, List, [], ◌∷◌, ◌++◌, map, replicate, Option, Some, None, slice_get, slice_index_or, slice_set}
use Rattle.sb_containers.specs.base.records.Reading.{◌>>=◌}
use Rattle.sb_containers.specs.base.pipeline.declared.transform.Down.{Down}
use Rattle.sb_containers.specs.base.pipeline.Shapes.{Shape}
use Rattle.sb_containers.specs.base.pipeline.Operators.{Operator, operator_of, lanes_of}
use Rattle.sb_containers.specs.base.pipeline.Operators.Operator.{Sink}
use Rattle.sb_containers.specs.declared.container.CoreLane.{CoreLane}
use Rattle.sb_core.specs.declared.moment.Node.{Node}
use Rattle.sb_core.specs.declared.moment.Moment.{Moment}
use Rattle.sb_core.specs.declared.held.Held.{Held}
use Rattle.sb_core.specs.declared.held.Held.TheVariants.{Work, Close}
use Rattle.sb_containers.specs.Lanes.{next_epoch, next_floor}

-- the lane of a place, where there is one
abbrev pub lane_at : Moment → Down → Option CoreLane
lane_at m d = slice_get m.nodes d.node >>= λ node. slice_get node.lanes d.lane

abbrev pub set_lane : ℕ → CoreLane → Node → Node
set_lane l lane node = record node { lanes = slice_set node.lanes l lane }

abbrev pub set_node : ℕ → Node → Moment → Moment
set_node k node m = record m { nodes = slice_set m.nodes k node }

-- the moment with another lane in a place
abbrev pub with_lane : Down → CoreLane → Moment → Option Moment
with_lane d lane m = slice_get m.nodes d.node >>= λ node. Some (set_node d.node (set_lane d.lane lane node) m)

-- the moment with other Works and Closes held
abbrev pub with_held : List Held → Moment → Moment
with_held held m = record m { held = held }

-- the node of a number, an empty one where there is none
abbrev pub no_node : Node
no_node = record { lanes = []; kept = []; closings = 0 }

abbrev pub node_at : Moment → ℕ → Node
node_at m k = slice_index_or m.nodes k no_node

-- the floor and the number of a lane's next epoch, 0 where there is no lane
abbrev pub floor_of : Option CoreLane → ℕ
floor_of None = 0
floor_of (Some lane) = next_floor lane

abbrev pub floor_at : Moment → Down → ℕ
floor_at m d = floor_of (lane_at m d)

abbrev pub epoch_of : Option CoreLane → ℕ
epoch_of None = 0
epoch_of (Some lane) = next_epoch lane

abbrev pub epoch_at : Moment → Down → ℕ
epoch_at m d = epoch_of (lane_at m d)

-- whether it is the Work of this bundle; a Close of this node; a Close of this node and lane
abbrev pub is_work : ℕ → ℕ → ℕ → Held → Bool
is_work k l n (Work node lane epoch floor number records delivered) = (node == k) && ((lane == l) && (number == n))
is_work k l n (Close node lane epoch serial floor mark rows passed) = false

abbrev pub is_close : ℕ → Held → Bool
is_close k (Work node lane epoch floor number records delivered) = false
is_close k (Close node lane epoch serial floor mark rows passed) = node == k

abbrev pub is_close_of : ℕ → ℕ → Held → Bool
is_close_of k l (Work node lane epoch floor number records delivered) = false
is_close_of k l (Close node lane epoch serial floor mark rows passed) = (node == k) && (lane == l)

-- before the first event nothing has arrived
abbrev pub empty_lane : CoreLane
empty_lane = record { conts = []; arrived = 0; marks = []; ended = 0 }

abbrev pub empty_node : Operator → Node
empty_node operator = record { lanes = replicate (lanes_of operator) empty_lane; kept = []; closings = 0 }

abbrev pub first : Shape → ℕ → Moment
first plan bundle = record {
  bundle = bundle;
  nodes = map (λ s. empty_node (operator_of s.kind)) plan.steps ++ empty_node Sink ∷ [];
  held = [];
  rows = [];
}
