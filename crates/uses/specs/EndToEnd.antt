-- What two sources have still to give, one behind the other.
use Rattle.std.specs.Prelude.{ℕ, List, ◌++◌, Option, Some, None}

-- the bytes of both, where both are told
abbrev pub left_of_both : Option (List ℕ) → Option (List ℕ) → Option (List ℕ)
left_of_both (Some first) (Some second) = Some (first ++ second)
left_of_both (Some first) None = None
left_of_both None second = None
