-- The mark of a closing.
use Rattle.std.specs.Prelude.{ℕ, ◌+◌, ◌==◌, if◌then◌else◌, min, List, [], ◌∷◌}
use Rattle.sb_lane.specs.containers.declared.container.CoreLane.{CoreLane}
use Rattle.sb_lane.specs.containers.Marks.{last_of_first}

-- the mark of the next epoch to end, and that of the last one that has ended
abbrev pub next_mark : CoreLane → ℕ
next_mark lane = last_of_first (lane.ended + 1) lane.marks

abbrev pub ended_mark : CoreLane → ℕ
ended_mark lane = last_of_first lane.ended lane.marks

-- the mark up to which a node with these lanes is closed once the oldest container of a lane is closing, and no other
abbrev pub mark_for : ℕ → List CoreLane → ℕ
mark_for l [] = 0
mark_for l (a ∷ []) = next_mark a
mark_for l (a ∷ b ∷ []) = if l == 0 then min (next_mark a) (ended_mark b) else min (ended_mark a) (next_mark b)
mark_for l (a ∷ b ∷ c ∷ lanes) = 0
