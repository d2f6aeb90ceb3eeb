-- What holds of each element of a list, and what passes of a list.
use Rattle.std.proofs.Common.{◌≡◌, Bool, true, false, cond, List, [], ◌∷◌, ◌++◌, map, get_or, refl, sym, ap, ◌∙◌}
use Rattle.std.specs.List.{filter, flat_map, list_any, AllByRecursion}
use Rattle.std.proofs.lemmas.List.Elements.{All-from_recursion, recursion_from_All, All-append, All-weaker, All-map as All-mapped, All-filter, All-contains, filter_passes}
use Rattle.std.proofs.lemmas.List.Folds.{Any-from_list_any}

pub every : {X : Type 0} {P Q : X → Type 0} → ((x : X) → P x → Q x) → (xs : List X) → AllByRecursion P xs → AllByRecursion Q xs
every {P = P} {Q = Q} f xs all = recursion_from_All Q xs (All-weaker P Q f xs (All-from_recursion P xs all))

pub All-join : {X : Type 0} (P : X → Type 0) (xs ys : List X) → AllByRecursion P xs → AllByRecursion P ys → AllByRecursion P (xs ++ ys)
All-join P xs ys a b = recursion_from_All P (xs ++ ys) (All-append P xs ys (All-from_recursion P xs a) (All-from_recursion P ys b))

pub All-flat_map : {X Y : Type 0} (P : X → Type 0) (Q : Y → Type 0) (g : X → List Y) → ((x : X) → P x → AllByRecursion Q (g x)) → (xs : List X) → AllByRecursion P xs → AllByRecursion Q (flat_map g xs)
All-flat_map P Q g f [] all = tt
All-flat_map P Q g f (x ∷ xs) all = All-join Q (g x) (flat_map g xs) (f x all.0) (All-flat_map P Q g f xs all.1)

pub All-map : {X Y : Type 0} (Q : Y → Type 0) (g : X → Y) → ((x : X) → Q (g x)) → (xs : List X) → AllByRecursion Q (map g xs)
All-map Q g f xs = recursion_from_All Q (map g xs) (All-mapped Q g xs (λ k d h. f (get_or xs k d)))

pub All-anything : {X : Type 0} (xs : List X) → AllByRecursion (λ x. Unit {0}) xs
All-anything xs = recursion_from_All (λ x. Unit {0}) xs (λ k d h. tt)

-- of what passes, where passing says so
pub All-passed : {X : Type 0} (P Q : X → Type 0) (p : X → Bool) → ((x : X) → P x → p x ≡ true → Q x) → (xs : List X) → AllByRecursion P xs → AllByRecursion Q (filter p xs)
All-passed P Q p w xs all =
    recursion_from_All Q (filter p xs) (λ k d h. w (get_or (filter p xs) k d) (All-filter p P xs (All-from_recursion P xs all) k d h) (filter_passes p xs k d h))

-- what follows from each element that passes follows where one passes
pub All-any : {X : Type 0} (P : X → Type 0) (Q : Type 0) (p : X → Bool) → ((x : X) → P x → p x ≡ true → Q) → (xs : List X) → AllByRecursion P xs → list_any p xs ≡ true → Q
All-any P Q p w xs all some = let (k, x, within, at, passes) = Any-from_list_any p xs some in w x (All-contains P xs x (All-from_recursion P xs all) (k, within, at)) passes

-- ---- what passes
pub filter_all : {X : Type 0} (xs : List X) → filter (λ _. true) xs ≡ xs
filter_all [] = refl
filter_all (x ∷ xs) = ap (λ l. x ∷ l) (filter_all xs)

-- what passes p passes a test that lets all of it through
pub filter_of_filter : {X : Type 0} (p o : X → Bool) → ((x : X) → p x ≡ true → o x ≡ true) → (xs : List X) → filter p (filter o xs) ≡ filter p xs
filter_of_filter p o w [] = refl
filter_of_filter {X} p o w (x ∷ xs) = by_case (o x) (p x) refl refl (filter_of_filter p o w xs)
  where
    by_case : (a b : Bool) → o x ≡ a → p x ≡ b → filter p (filter o xs) ≡ filter p xs → filter p (cond a (x ∷ filter o xs) (filter o xs)) ≡ cond b (x ∷ filter p xs) (filter p xs)
    by_case true b e f h = λ i. cond (f i) (x ∷ h i) (h i)
    by_case false true e f h = let k : false ≡ true = sym e ∙ w x f in cc
    by_case false false e f h = h
