-- What a look at the lanes of a node finds.
use Rattle.std.specs.Prelude.{◌≡◌, ◌⊎◌, ℕ, ◌+◌, true, false, List, All, length, None, Some, Err, slice_get, take}
use Rattle.sb_lane.specs.containers.Marks.{first_is_closing}
use Rattle.sb_lane.specs.declared.answers.NotYet.{NotYet}
use Rattle.sb_lane.specs.LaneView.{LaneView}
use Rattle.sb_lane.specs.Looks.{look_of}
use Rattle.sb_lane.specs.Placed.{conts_of}
use Rattle.sb_lane.specs.Taking.{take_first}

-- no bundle waits in the lane
abbrev pub NoneWaits : LaneView → Type 0
NoneWaits lane = take_first (conts_of lane.containers) ≡ None

-- the lane's oldest container cannot close, and this is why
abbrev pub CannotClose : LaneView → Type 0
CannotClose lane = (why : NotYet) × (look_of (conts_of lane.containers) ≡ Err why)

-- each lane before lane l cannot close
abbrev pub EarlierCannotClose : ℕ → List LaneView → Type 0
EarlierCannotClose l lanes = All CannotClose (take l lanes)

-- no lane's oldest container is closing
abbrev pub NoneClosing : List LaneView → Type 0
NoneClosing lanes = All (λ lane. first_is_closing (conts_of lane.containers) ≡ false) lanes

-- no closing can begin, and this is why: a container of a lane is closing; or no lane's oldest container can close, and
-- this is what the last lane says
abbrev pub IsNotYet : List LaneView → NotYet → Type 0
IsNotYet lanes why =
    (l : ℕ) × (lane : LaneView) × (slice_get lanes l ≡ Some lane) × (look_of (conts_of lane.containers) ≡ Err why)
    × ((first_is_closing (conts_of lane.containers) ≡ true)
    ⊎ ((l + 1 ≡ length lanes) × NoneClosing lanes × All CannotClose lanes))
