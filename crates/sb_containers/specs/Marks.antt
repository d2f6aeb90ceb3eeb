-- The marks up to which lanes and nodes are closed.
use Rattle.std.specs.Prelude.{ℕ, ◌+◌, ◌-◌, ◌==◌, Bool, false, if◌then◌else◌, min, List, [], ◌∷◌, slice_index}
use Rattle.sb_containers.specs.declared.container.Cont.{Cont}
use Rattle.sb_containers.specs.declared.container.CoreLane.{CoreLane}

abbrev pub first_is_closing : List Cont → Bool
first_is_closing [] = false
first_is_closing (c ∷ cs) = c.closing

-- how many epochs of the lane have begun to close
abbrev pub begun_count : CoreLane → ℕ
begun_count lane = if first_is_closing lane.conts then lane.ended + 1 else lane.ended

-- the last of the first n marks, or 0
abbrev pub last_of_first : ℕ → List ℕ → ℕ
last_of_first n marks = if n == 0 then 0 else slice_index marks (n - 1)

-- the mark of the last epoch that has begun to close, 0 where none has; of two lanes the smaller
abbrev pub least_begun_mark : List CoreLane → ℕ
least_begun_mark [] = 0
least_begun_mark (lane ∷ []) = last_of_first (begun_count lane) lane.marks
least_begun_mark (lane ∷ other ∷ lanes) =
    min (last_of_first (begun_count lane) lane.marks) (least_begun_mark (other ∷ lanes))

-- the same, as if a container that is closing had not begun
abbrev pub before_closing : List CoreLane → ℕ
before_closing [] = 0
before_closing (lane ∷ []) = last_of_first lane.ended lane.marks
before_closing (lane ∷ other ∷ lanes) = min (last_of_first lane.ended lane.marks) (before_closing (other ∷ lanes))
