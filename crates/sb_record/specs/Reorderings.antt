-- Lists that differ in order alone.
use Rattle.std.specs.Prelude.{◌≡◌, ℕ, List, sum_by}

-- every function adds up alike over both lists, so they hold the same elements, each equally often
abbrev pub IsReordered : {X : Type 0} → List X → List X → Type 0
IsReordered {X} l m = (f : X → ℕ) → sum_by f l ≡ sum_by f m
