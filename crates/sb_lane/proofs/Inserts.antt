-- A new place in an order.
use Rattle.std.proofs.Common.{◌≡◌, ℕ, suc, zero, ◌+◌, ◌<◌, ◌≤◌, Bool, cond, eqb, List, [], ◌∷◌, ◌++◌, map, length, get_or, set, sym, refl, ap, subst, ◌∙◌, arith, length-append}
use Rattle.std.specs.List.{insert}
use Rattle.std.proofs.lemmas.List.Sums.{sum_by-insert, sum_by-append}
use Rattle.std.proofs.lemmas.List.Edits.{length-insert}
use Rattle.std.proofs.lemmas.List.{length-set, length-map, get_or-map}
use Rattle.sb_lane.specs.declared.container.Container.{Container}
use Rattle.sb_lane.specs.Placed.{Placed, placed_at, no_container, slot, containers_at}
use Rattle.sb_lane.specs.Slots.{times_in, AreSlots}
use Rattle.sb_lane.proofs.Places.{times-cons, times-same, untouched, slot-same}
use Rattle.std.proofs.lemmas.Bool.{eqb-true}
use Rattle.std.specs.Prelude.{true, false}

pub map-insert : {X Y : Type 0} (f : X → Y) (xs : List X) (i : ℕ) (x : X) → map f (insert xs i x) ≡ insert (map f xs) i (f x)
map-insert f [] zero x = refl
map-insert f [] (suc i) x = refl
map-insert f (y ∷ xs) zero x = refl
map-insert f (y ∷ xs) (suc i) x = ap (λ l. f y ∷ l) (map-insert f xs i x)

pub times-insert : (p q : ℕ) (l : List ℕ) (i : ℕ) → times_in p (insert l i q) ≡ times_in p l + cond (eqb q p) 1 0
times-insert p q l i = sum_by-insert (λ q. cond (eqb q p) 1 0) l i q

pub times-push : (p q : ℕ) (l : List ℕ) → times_in p (l ++ q ∷ []) ≡ times_in p l + times_in p (q ∷ [])
times-push p q l = sum_by-append (λ q. cond (eqb q p) 1 0) l (q ∷ [])

-- slots past the end are seen by nobody
slot-append : (slots : List Container) (c : Container) (q : ℕ) → q < length slots → slot (slots ++ c ∷ []) q ≡ slot slots q
slot-append slots c q h = ap (λ l. get_or l q no_container) (map-push (placed_at q) slots c) ∙ early (map (placed_at q) slots) (placed_at q c) q (omega (arith, length-map slots (placed_at q)))
  where
    map-push : {X Y : Type 0} (f : X → Y) (xs : List X) (x : X) → map f (xs ++ x ∷ []) ≡ map f xs ++ f x ∷ []
    map-push f [] x = refl
    map-push f (y ∷ xs) x = ap (λ l. f y ∷ l) (map-push f xs x)

    early : (xs : List Placed) (x : Placed) (q : ℕ) → q < length xs → get_or (xs ++ x ∷ []) q no_container ≡ get_or xs q no_container
    early [] x q h = absurd (omega arith)
    early (y ∷ xs) x zero h = refl
    early (y ∷ xs) x (suc q) h = early xs x q (omega arith)

slot-last : (slots : List Container) (c : Container) → slot (slots ++ c ∷ []) (length slots) ≡ placed_at (length slots) c
slot-last slots c =
    get_or-map (placed_at (length slots)) (slots ++ c ∷ []) (length slots) c no_container (omega (arith, length-append slots (c ∷ [])))
    ∙ ap (placed_at (length slots)) (last slots)
  where
    last : (l : List Container) → get_or (l ++ c ∷ []) (length l) c ≡ c
    last [] = refl
    last (y ∷ l) = last l

arranged-append : (slots : List Container) (c : Container) (order : List ℕ) → ((p : ℕ) → 1 ≤ times_in p order → p < length slots) → containers_at (slots ++ c ∷ []) order ≡ containers_at slots order
arranged-append slots c [] there = refl
arranged-append slots c (q ∷ order) there =
    λ i. slot-append slots c q (there q (omega (arith, times-same q q order refl))) i ∷ arranged-append slots c order (λ p h. there p (omega (arith, h, times-cons p q order))) i

count : (b : Bool) → cond {A = ℕ} b 1 0 ≤ 1
count b = elim b as (λ b. cond {A = ℕ} b 1 0 ≤ 1) [ true ↦ omega arith | false ↦ omega arith ]

module _ (slots : List Container) (room : ℕ) (order : List ℕ) (at : ℕ) (c : Container) (h : at ≤ length order) where
  -- into a place that was free
  module _ (free : List ℕ) (p : ℕ) (are : AreSlots (length slots) room order (free ++ p ∷ [])) where
    here : times_in p (free ++ p ∷ []) ≡ times_in p free + 1
    here = times-push p p free ∙ omega (arith, times-same p p [] refl)

    absent : times_in p order ≡ 0
    absent = omega (arith, are.once p, here)

    within : p < length slots
    within = are.there p (omega (arith, here))

    pub reuse-arranged : containers_at (set slots p c) (insert order at p) ≡ insert (containers_at slots order) at (placed_at p c)
    reuse-arranged = map-insert (slot (set slots p c)) order at p ∙ (λ i. insert (untouched slots p c order absent i) at (slot-same slots p c within i))

    pub reuse-are : AreSlots (length (set slots p c)) room (insert order at p) free
    reuse-are = record {
      all = omega (arith, are.all, length-set slots p c, length-insert order at p h, length-append free (p ∷ []));
      enough = omega (arith, are.enough, length-set slots p c);
      once = λ q. omega (arith, are.once q, times-insert q p order at, times-push q p free, times-cons q p []);
      there = λ q k. let z = are.there q (omega (arith, k, times-insert q p order at, times-push q p free, times-cons q p [])) in omega (arith, z, length-set slots p c);
    }

  -- into a new one
  module _ (more : ℕ) (are : AreSlots (length slots) room order []) where
    pub new-arranged : containers_at (slots ++ c ∷ []) (insert order at (length slots)) ≡ insert (containers_at slots order) at (placed_at (length slots) c)
    new-arranged = map-insert (slot (slots ++ c ∷ [])) order at (length slots) ∙ (λ i. insert (arranged-append slots c order (λ p k. are.there p (omega (arith, k))) i) at (slot-last slots c i))

    pub new-are : length slots + 1 ≤ room → AreSlots (length (slots ++ c ∷ [])) room (insert order at (length slots)) []
    new-are enough = record {
      all = omega (arith, are.all, length-append slots (c ∷ []), length-insert order at (length slots) h);
      enough = omega (arith, enough, length-append slots (c ∷ []));
      once = λ q. once q (eqb (length slots) q) refl;
      there = λ q k. there q (eqb (length slots) q) refl k;
    }
      where
        not_in : (q : ℕ) → length slots ≡ q → times_in q order ≡ 0
        not_in q n = by_case (times_in q order) refl
          where
            by_case : (k : ℕ) → times_in q order ≡ k → k ≡ 0
            by_case zero e = refl
            by_case (suc k) e = let z : q < length slots = are.there q (omega arith) in absurd (omega arith)

        once : (q : ℕ) (b : Bool) → eqb (length slots) q ≡ b → times_in q (insert order at (length slots)) + times_in q [] ≤ 1
        once q true e = let n = eqb-true (length slots) q e in let none = not_in q n in let one : cond {A = ℕ} (eqb (length slots) q) 1 0 ≡ 1 = ap (λ b. cond {A = ℕ} b 1 0) e in omega (arith, times-insert q (length slots) order at, are.there q)
        once q false e = let one : cond {A = ℕ} (eqb (length slots) q) 1 0 ≡ 0 = ap (λ b. cond {A = ℕ} b 1 0) e in omega (arith, times-insert q (length slots) order at, are.once q)

        there : (q : ℕ) (b : Bool) → eqb (length slots) q ≡ b → 1 ≤ times_in q (insert order at (length slots)) + times_in q [] → q < length (slots ++ c ∷ [])
        there q true e k = let n = eqb-true (length slots) q e in omega (arith, length-append slots (c ∷ []))
        there q false e k = let one : cond {A = ℕ} (eqb (length slots) q) 1 0 ≡ 0 = ap (λ b. cond {A = ℕ} b 1 0) e in omega (arith, times-insert q (length slots) order at, are.there q, length-append slots (c ∷ []))

-- the first place is free
pub end-are : (slots room : ℕ) (order free : List ℕ) (p : ℕ) → AreSlots slots room (p ∷ order) free → AreSlots slots room order (free ++ p ∷ [])
end-are slots room order free p are = record {
  all = omega (arith, are.all, length-append free (p ∷ []));
  enough = are.enough;
  once = λ q. omega (arith, are.once q, times-push q p free, times-cons q p [], times-cons q p order);
  there = λ q k. are.there q (omega (arith, k, times-push q p free, times-cons q p [], times-cons q p order));
}

-- a place that is free is there
pub within-free : (slots : List Container) (room : ℕ) (order free : List ℕ) (p : ℕ) → AreSlots (length slots) room order (free ++ p ∷ []) → p < length slots
within-free slots room order free p are = are.there p (omega (arith, times-push p p free, times-same p p [] refl))

-- more room, and the same lists
pub kept-are : (slots now : List Container) (room more : ℕ) (order later free left : List ℕ) → now ≡ slots → later ≡ order → left ≡ free → room ≤ more → AreSlots (length slots) room order free → AreSlots (length now) more later left
kept-are slots now room more order later free left e f g h are =
    subst (λ (l : List Container). AreSlots (length l) more later left) (sym e)
    (subst (λ (l : List ℕ). AreSlots (length slots) more l left) (sym f)
    (subst (λ (l : List ℕ). AreSlots (length slots) more order l) (sym g) (record { all = are.all; enough = omega (arith, are.enough, h); once = are.once; there = are.there })))
