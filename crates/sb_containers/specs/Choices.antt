-- Words on options and lists.
use Rattle.std.specs.Prelude.{Bool, true, false, if◌then◌else◌, List, [], ◌∷◌, Option, Some, None}
use Rattle.sb_base.specs.records.Reading.{◌>>=◌}

-- the value, where the test passes
abbrev pub only_if : {X : Type 0} → Bool → Option X → Option X
only_if test x = if test then x else None

abbrev pub is_empty : {X : Type 0} → List X → Bool
is_empty [] = true
is_empty (x ∷ xs) = false

-- the first element that passes, and the list without it
abbrev pub first_and_rest : {X : Type 0} → (X → Bool) → List X → Option (X × List X)
first_and_rest p [] = None
first_and_rest p (x ∷ xs) = if p x then Some (x, xs) else (first_and_rest p xs >>= λ q. Some (q.0, x ∷ q.1))
