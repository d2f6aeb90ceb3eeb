-- What a lane keeps of its marks, in place of the list of all of them.
use Rattle.std.specs.Prelude.{◌≡◌, ℕ, ◌-◌, ◌≤◌, List, length, drop, slice_index}
use Rattle.sb_containers.specs.Marks.{last_of_first}

-- how many marks there are, how many of their epochs have ended, the last mark, the mark of the last epoch that has
-- ended, and the marks of the sealed epochs that have not ended
pub record AreKeptMarks (marks : List ℕ) (sealed ended last_mark closed_mark : ℕ) (ahead : List ℕ) : Type 0 where
  pub sealed_is : sealed ≡ length marks
  pub ended_in : ended ≤ length marks
  pub last_is : last_mark ≡ slice_index marks (length marks - 1)
  pub closed_is : closed_mark ≡ last_of_first ended marks
  pub ahead_is : ahead ≡ drop ended marks
