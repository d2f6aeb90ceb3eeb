-- How often lanes have looked for a container, beside their seals and their containers.
use Rattle.std.specs.Prelude.{◌≡◌, ℕ, ◌+◌, ◌≤◌, if◌then◌else◌, List, length, sum_by, is_some}
use Rattle.sb_tally.specs.core.containers.declared.container.Cont.{Cont}
use Rattle.sb_tally.specs.core.containers.declared.container.CoreLane.{CoreLane}
use Rattle.sb_node.specs.lane.LaneView.{LaneView, lane_of}
use Rattle.sb_node.specs.declared.state.NodeState.{NodeState}
use Rattle.sb_shown.specs.Sets.{HasLane}

-- 1 for a container that is not sealed
abbrev pub unsealed_in : Cont → ℕ
unsealed_in c = if is_some c.mark then 0 else 1

-- the seals of a lane, and its containers that are not sealed, together
abbrev pub seals_and_unsealed : CoreLane → ℕ
seals_and_unsealed lane = length lane.marks + sum_by unsealed_in lane.conts

-- the searches of a lane have risen by at most as much as its seals and unsealed containers together
abbrev pub LooksFew : LaneView → LaneView → Type 0
LooksFew was is = is.searches + seals_and_unsealed (lane_of was) ≤ was.searches + seals_and_unsealed (lane_of is)

-- and so of each lane, which was there
abbrev pub SearchesFew : List NodeState → List NodeState → Type 0
SearchesFew old new =
    (k l : ℕ) (is : LaneView) → HasLane k l is new → (was : LaneView) × HasLane k l was old × LooksFew was is

-- each lane was there, and has looked as often
abbrev pub SearchesStay : List NodeState → List NodeState → Type 0
SearchesStay old new =
    (k l : ℕ) (is : LaneView) → HasLane k l is new
    → (was : LaneView) × HasLane k l was old × (is.searches ≡ was.searches)
