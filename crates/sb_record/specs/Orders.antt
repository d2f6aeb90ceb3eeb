-- Lists put in order.
use Rattle.std.specs.Prelude.{◌≡◌, false, List, [], ◌∷◌, if◌then◌else◌}
use Rattle.std.specs.List.{AllByRecursion}
use Rattle.std.specs.Ordering.{is_lt}
use Rattle.std.specs.declared.cmp.Ordering.{Ordering}
use Rattle.std.specs.declared.cmp.Ordering.TheVariants.{Less, Equal, Greater}

-- the list with x before the first element that is not less
abbrev pub put_in_order : {X : Type 0} → (X → X → Ordering) → X → List X → List X
put_in_order cmp x [] = x ∷ []
put_in_order cmp x (y ∷ ys) = if is_lt (cmp y x) then y ∷ put_in_order cmp x ys else x ∷ y ∷ ys

-- the list sorted: each element as often as before, none less than one before it
abbrev pub in_order : {X : Type 0} → (X → X → Ordering) → List X → List X
in_order cmp [] = []
in_order cmp (x ∷ xs) = put_in_order cmp x (in_order cmp xs)

-- the first, the second or the third value, by the ordering
abbrev pub by_ordering : {X : Type 0} → Ordering → X → X → X → X
by_ordering Less x y z = x
by_ordering Equal x y z = y
by_ordering Greater x y z = z

-- a list sorted without repeats, with x put in its place, unless it is there
abbrev pub put_once : {X : Type 0} → (X → X → Ordering) → X → List X → List X
put_once cmp x [] = x ∷ []
put_once cmp x (y ∷ ys) = by_ordering (cmp x y) (x ∷ y ∷ ys) (y ∷ ys) (y ∷ put_once cmp x ys)

-- the elements of the list, each once, in order
abbrev pub distinct : {X : Type 0} → (X → X → Ordering) → List X → List X
distinct cmp [] = []
distinct cmp (x ∷ xs) = put_once cmp x (distinct cmp xs)

-- no element is less than one before it
abbrev pub IsAscending : {X : Type 0} → (X → X → Ordering) → List X → Type 0
IsAscending cmp [] = Unit {0}
IsAscending cmp (x ∷ xs) = AllByRecursion (λ y. is_lt (cmp y x) ≡ false) xs × IsAscending cmp xs
