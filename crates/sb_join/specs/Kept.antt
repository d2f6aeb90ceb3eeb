-- A join between closings: what it has kept, its marks, and what it would give.
use Rattle.std.specs.Prelude.{◌≡◌, ℕ, ◌<◌, min, Bool, true, false, List, [], ◌++◌, All}
use Rattle.sb_runs.specs.records.declared.element.KeptRec.{KeptRec}
use Rattle.sb_runs.specs.records.declared.item.Record.{Record}
use Rattle.sb_runs.specs.records.declared.item.TheConstants.{END_MARK}
use Rattle.sb_runs.specs.records.Elements.{on_lane, of_lane}
use Rattle.sb_runs.specs.records.Records.{at_least}
use Rattle.sb_runs.specs.records.Reorderings.{IsReordered}
use Rattle.sb_runs.specs.window.Spacing.{Spacing}
use Rattle.sb_windowed.specs.declared.join.Combine.{Combine}
use Rattle.sb_windowed.specs.declared.join.Side.{Side}
use Rattle.sb_windowed.specs.declared.join.Side.TheVariants.{Left, Right}
use Rattle.sb_windowed.specs.Joins.{join_rows}

-- what is kept of the left and of the right records, the marks of the sides, the mark of the last closing, and whether
-- no memory was found. A record that is kept stands for one of its window, key and value: its time is the last one of
-- the window
pub record JoinState : Type 0 where
  pub combine : Combine
  pub windows : Spacing
  pub left : List Record
  pub right : List Record
  pub left_mark : ℕ
  pub right_mark : ℕ
  pub closed : ℕ
  pub is_spent : Bool

-- a join that has taken nothing
abbrev pub fresh : Combine → Spacing → JoinState
fresh combine windows =
    record {
      combine = combine;
      windows = windows;
      left = [];
      right = [];
      left_mark = 0;
      right_mark = 0;
      closed = 0;
      is_spent = false;
    }

-- no memory was found
abbrev pub IsSpent : JoinState → Type 0
IsSpent s = s.is_spent ≡ true

-- the rows, from the closed mark on, of what is kept and of these elements
abbrev pub gives : JoinState → List KeptRec → List Record
gives s l = at_least s.closed (join_rows s.combine s.windows (s.left ++ of_lane 0 l) (s.right ++ of_lane 1 l))

-- the lane of a side
abbrev pub lane_of : Side → ℕ
lane_of Left = 0
lane_of Right = 1

-- ---- what a bundle stands for
-- a part: the records that came on a side, put into these windows
pub record OneSided : Type 0 where
  pub windows : Spacing
  pub side : Side
  pub records : List Record

-- the part was made for such a join
abbrev pub IsLike : JoinState → OneSided → Type 0
IsLike s p = p.windows ≡ s.windows

-- no record is so late that it is after the end of the input
abbrev pub IsInTime : List Record → Type 0
IsInTime records = All (λ r. r.time < END_MARK) records

-- the elements are these records, on the lane of the side, in any order
abbrev pub StandsFor : Side → List Record → List KeptRec → Type 0
StandsFor side records es = IsReordered es (on_lane (lane_of side) records)

-- ---- marks
-- the last mark of a side
abbrev pub mark_of : Side → JoinState → ℕ
mark_of Left s = s.left_mark
mark_of Right s = s.right_mark

-- the join with another mark of a side
abbrev pub with_mark : Side → ℕ → JoinState → JoinState
with_mark Left mark s = record s { left_mark = mark }
with_mark Right mark s = record s { right_mark = mark }

-- the joint mark: the smaller of those of both sides
abbrev pub low_mark : JoinState → ℕ
low_mark s = min s.left_mark s.right_mark

-- each side has the mark that it had
abbrev pub HaveSameMarks : JoinState → JoinState → Type 0
HaveSameMarks s t = (side : Side) → mark_of side t ≡ mark_of side s
