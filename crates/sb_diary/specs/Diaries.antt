-- What contracts see of a diary that is being written.
use Rattle.std.specs.Prelude.{ℕ, ◌-◌, Bool, List, [], ◌∷◌, ◌++◌}
use Rattle.sb_diary.specs.declared.event.DiaryEvent.{DiaryEvent}

-- the lanes of its node, all its lines, whether the lines themselves are kept, and how many more there is room for
pub record Written : Type 0 where
  pub lanes : ℕ
  pub events : List DiaryEvent
  pub keeps : Bool
  pub spare : ℕ

-- the diary without lines
abbrev pub unwritten : ℕ → Bool → Written
unwritten lanes keeps = record { lanes = lanes; events = []; keeps = keeps; spare = 0 }

-- with one line more, which takes room
abbrev pub with_line : DiaryEvent → Written → Written
with_line event d = record d { events = d.events ++ event ∷ []; spare = d.spare - 1 }

-- the same lines, with room for so many more
abbrev pub with_spare : ℕ → Written → Written
with_spare spare d = record d { spare = spare }
