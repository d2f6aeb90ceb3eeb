-- Sorted lists: what they become by a value more, and what two of them are together.
use Rattle.std.proofs.Common.{◌≡◌, ℕ, ◌+◌, ◌<◌, ◌≤◌, zero, suc, Bool, true, false, List, [], ◌∷◌, ◌++◌, length, get_or, drop, insert, HoldsAt, ◌⊎◌, ⊎_elim, sym, subst, refl, ap, ◌∙◌, arith}
use Rattle.std.specs.Prelude.{◌||◌}
use Rattle.std.specs.List.{list_any, AllByRecursion}
use Rattle.std.specs.List.Sorted.{IsStrictlySortedBy, IsNonDecreasingBy, IsPartitionPoint}
use Rattle.std.specs.BTreeSet.{insert_key}
use Rattle.std.specs.Ordering.{MatchOrdering, eq_by_cmp, match_ordering, ordering_index, ordering_reverse}
use Rattle.std.specs.Cmp.{IsTotalOrder}
use Rattle.std.specs.declared.cmp.Ordering.{Ordering}
use Rattle.std.specs.declared.cmp.Ordering.TheVariants.{Less, Equal, Greater}
use Rattle.std.proofs.lemmas.Bool.{cases_lt}
use Rattle.std.proofs.lemmas.List.{append-nil, drop_all, drop_more}
use Rattle.std.proofs.lemmas.List.Folds.{list_any-append, list_any_at}
use Rattle.std.proofs.lemmas.Map.Keys.{Less-from_sorted, sorted_tail}
use Rattle.std.proofs.lemmas.Map.Lookups.{CmpEqualImpliesEq, btree_set_from_contains}
use Rattle.sb_runs.specs.records.Orders.{put_once, distinct, by_ordering}
use Rattle.sb_runs.proofs.records.Elements.{every, All-join}
use Rattle.sb_runs.proofs.records.Distinct.{distinct-sorted, any_distinct}
use Rattle.sb_runs.proofs.records.Different.{distinct-insert, distinct-sorted_keys}

or_again : (a b c : Bool) → (a || (b || (a || c))) ≡ (a || (b || c))
or_again true b c = refl
or_again false b c = refl

or_first : (a b c : Bool) → (b || (a || c)) ≡ (a || (b || c))
or_first true true c = refl
or_first true false c = refl
or_first false b c = refl

or_within : (a b : Bool) → (a ≡ true → b ≡ true) → (b || (a || false)) ≡ b
or_within true true h = refl
or_within true false h = sym (h refl)
or_within false true h = refl
or_within false false h = refl

-- what is left of a sorted list
pub sorted-drop : {X : Type 0} (R : X → X → Ordering) (i : ℕ) (xs : List X) → IsStrictlySortedBy R xs → IsStrictlySortedBy R (drop i xs)
sorted-drop R zero xs up = up
sorted-drop R (suc i) [] up = up
sorted-drop R (suc i) (x ∷ xs) up = sorted-drop R i xs (sorted_tail R x xs up)

module _ {X : Type 0} {R : X → X → Ordering} (o : IsTotalOrder R) where
  greater : (x y : X) → R x y ≡ Less → R y x ≡ Greater
  greater x y e = o.antisymm y x ∙ ap ordering_reverse e

  less : (x y : X) → R x y ≡ Greater → R y x ≡ Less
  less x y e = o.antisymm y x ∙ ap ordering_reverse e

  -- ---- a value more
  -- values that rise, each compared with the same value
  rises-one : (a b x : X) → R a b ≡ Less → ordering_index (R a x) ≤ ordering_index (R b x)
  rises-one a b x e =
      elim (R a x) as (λ r. R a x ≡ r → ordering_index r ≤ ordering_index (R b x)) [
        | Less ↦ λ h. omega arith
        | Equal ↦ λ h. let k = ap ordering_index (greater x b (sym (o.congr a x b h) ∙ e)) in omega (arith, k)
        | Greater ↦ λ h. let k = ap ordering_index (greater x b (o.trans x a b (less a x h) e)) in omega (arith, k)
      ] refl

  pub rises : (x : X) (xs : List X) → IsStrictlySortedBy R xs → IsNonDecreasingBy (λ y. ordering_index (R y x)) xs
  rises x xs up i j d le lt =
      ⊎_elim
      (λ l. rises-one (get_or xs i d) (get_or xs j d) x (Less-from_sorted R xs i j d up l lt))
      (λ l. let e : i ≡ j = omega arith in let k = ap (λ n. ordering_index (R (get_or xs n d) x)) e in omega (arith, k))
      (cases_lt i j)

  -- a value that is put between those below it and those above it
  insert-key : (x : X) (xs : List X) (i : ℕ) → i ≤ length xs → IsPartitionPoint (λ y. R y x ≡ Less) (λ y. R y x ≡ Greater) xs i → insert xs i x ≡ insert_key R xs x
  insert-key x [] zero le h = refl
  insert-key x [] (suc i) le h = absurd (omega arith)
  insert-key x (y ∷ ys) zero le h = sym (ap (λ r. match_ordering r (x ∷ y ∷ ys) (y ∷ ys) (y ∷ insert_key R ys x)) (less y x (h.1 zero x (omega arith) (omega arith))))
  insert-key x (y ∷ ys) (suc i) le h =
      ap (λ l. y ∷ l) (insert-key x ys i (omega arith) (λ k d from below. h.0 (suc k) d (omega arith) (omega arith), λ k d from below. h.1 (suc k) d (omega arith) (omega arith)))
      ∙ sym (ap (λ r. match_ordering r (x ∷ y ∷ ys) (y ∷ ys) (y ∷ insert_key R ys x)) (greater y x (h.0 zero x (omega arith) (omega arith))))

  module _ (exact : CmpEqualImpliesEq R) where
    pub distinct-placed : (x : X) (xs : List X) (i : ℕ) → IsStrictlySortedBy R xs → i ≤ length xs → IsPartitionPoint (λ y. R y x ≡ Less) (λ y. R y x ≡ Greater) xs i → insert xs i x ≡ distinct R (xs ++ x ∷ [])
    distinct-placed x xs i up le h = insert-key x xs i le h ∙ ap (λ l. insert_key R l x) (sym (distinct-sorted_keys o exact xs up)) ∙ distinct-insert o exact x xs

    -- a value that is there
    pub distinct-there : (x : X) (xs : List X) (i : ℕ) → IsStrictlySortedBy R xs → i < length xs → HoldsAt (λ y. R y x ≡ Equal) xs i → xs ≡ distinct R (xs ++ x ∷ [])
    distinct-there x xs i up lt h =
        btree_set_from_contains o (record { keys = xs }) (record { keys = distinct R (xs ++ x ∷ []) }) up (distinct-sorted o (xs ++ x ∷ []))
        (λ q. sym (any_distinct o exact q (xs ++ x ∷ []) ∙ list_any-append (eq_by_cmp R q) xs (x ∷ [])
        ∙ or_within (eq_by_cmp R q x) (list_any (eq_by_cmp R q) xs) (λ e. list_any_at (eq_by_cmp R q) xs i x lt (ap (eq_by_cmp R q) (exact (get_or xs i x) x (h x)) ∙ e)))) exact

    -- ---- two lists
    all_put_once : (P : X → Type 0) (x : X) (ys : List X) → P x → AllByRecursion P ys → AllByRecursion P (put_once R x ys)
    all_put_once P x [] h all = (h, all)
    all_put_once P x (y ∷ ys) h all =
        elim (R x y) as (λ r. AllByRecursion P (by_ordering r (x ∷ y ∷ ys) (y ∷ ys) (y ∷ put_once R x ys))) [
          | Less ↦ (h, all)
          | Equal ↦ all
          | Greater ↦ (all.0, all_put_once P x ys h all.1)
        ]

    all_distinct : (P : X → Type 0) (xs : List X) → AllByRecursion P xs → AllByRecursion P (distinct R xs)
    all_distinct P [] all = tt
    all_distinct P (x ∷ xs) all = all_put_once P x (distinct R xs) all.0 (all_distinct P xs all.1)

    -- the least of values, and then the different ones of the others
    first-distinct : (x : X) (ls ms : List X) → AllByRecursion (λ y. R x y ≡ Less) ms → ((q : X) → list_any (eq_by_cmp R q) ls ≡ (eq_by_cmp R q x || list_any (eq_by_cmp R q) ms)) → distinct R ls ≡ x ∷ distinct R ms
    unfolding IsStrictlySortedBy
    first-distinct x ls ms below has =
        btree_set_from_contains o (record { keys = distinct R ls }) (record { keys = x ∷ distinct R ms }) (distinct-sorted o ls) (all_distinct (λ y. R x y ≡ Less) ms below, distinct-sorted o ms)
        (λ q. any_distinct o exact q ls ∙ has q ∙ ap (λ b. eq_by_cmp R q x || b) (sym (any_distinct o exact q ms))) exact

    module _ (x y : X) (xs ys : List X) (up : IsStrictlySortedBy R (x ∷ xs)) (more : IsStrictlySortedBy R (y ∷ ys)) where
      pub merge-less : R x y ≡ Less → distinct R ((x ∷ xs) ++ y ∷ ys) ≡ x ∷ distinct R (xs ++ y ∷ ys)
      unfolding IsStrictlySortedBy
      merge-less e = first-distinct x ((x ∷ xs) ++ y ∷ ys) (xs ++ y ∷ ys) (All-join (λ z. R x z ≡ Less) xs (y ∷ ys) up.0 (e, every (λ z h. o.trans x y z e h) ys more.0)) (λ q. refl)

      pub merge-equal : R x y ≡ Equal → distinct R ((x ∷ xs) ++ y ∷ ys) ≡ x ∷ distinct R (xs ++ ys)
      unfolding IsStrictlySortedBy
      merge-equal e =
          first-distinct x ((x ∷ xs) ++ y ∷ ys) (xs ++ ys) (All-join (λ z. R x z ≡ Less) xs ys up.0 (every (λ z h. o.congr x y z e ∙ h) ys more.0))
          (λ q. ap (λ b. eq_by_cmp R q x || b) (list_any-append (eq_by_cmp R q) xs (y ∷ ys))
          ∙ ap (λ z. eq_by_cmp R q x || (list_any (eq_by_cmp R q) xs || (eq_by_cmp R q z || list_any (eq_by_cmp R q) ys))) (sym (exact x y e))
          ∙ or_again (eq_by_cmp R q x) (list_any (eq_by_cmp R q) xs) (list_any (eq_by_cmp R q) ys)
          ∙ ap (λ b. eq_by_cmp R q x || b) (sym (list_any-append (eq_by_cmp R q) xs ys)))

      pub merge-greater : R x y ≡ Greater → distinct R ((x ∷ xs) ++ y ∷ ys) ≡ y ∷ distinct R ((x ∷ xs) ++ ys)
      unfolding IsStrictlySortedBy
      merge-greater e =
          first-distinct y ((x ∷ xs) ++ y ∷ ys) ((x ∷ xs) ++ ys) (All-join (λ z. R y z ≡ Less) (x ∷ xs) ys (less x y e, every (λ z h. o.trans y x z (less x y e) h) xs up.0) more.0)
          (λ q. list_any-append (eq_by_cmp R q) (x ∷ xs) (y ∷ ys)
          ∙ or_first (eq_by_cmp R q y) (list_any (eq_by_cmp R q) (x ∷ xs)) (list_any (eq_by_cmp R q) ys)
          ∙ ap (λ b. eq_by_cmp R q y || b) (sym (list_any-append (eq_by_cmp R q) (x ∷ xs) ys)))

    -- two lists from a place in each on, and from the next places on
    pub merge-step : (xs ys : List X) (i j k l : ℕ) (m d : X) → IsStrictlySortedBy R xs → IsStrictlySortedBy R ys → i < length xs → j < length ys
        → MatchOrdering (R (get_or xs i d) (get_or ys j d)) ((m ≡ get_or xs i d) × (k ≡ i + 1) × (l ≡ j)) ((m ≡ get_or xs i d) × (k ≡ i + 1) × (l ≡ j + 1)) ((m ≡ get_or ys j d) × (k ≡ i) × (l ≡ j + 1))
        → distinct R (drop i xs ++ drop j ys) ≡ m ∷ distinct R (drop k xs ++ drop l ys)
    merge-step xs ys i j k l m d up more within within_more next =
        let x = get_or xs i d in
        let y = get_or ys j d in
        let e = drop_more xs i d within in
        let f = drop_more ys j d within_more in
        let rises-x : IsStrictlySortedBy R (x ∷ drop (i + 1) xs) = subst (IsStrictlySortedBy R) e (sorted-drop R i xs up) in
        let rises-y : IsStrictlySortedBy R (y ∷ drop (j + 1) ys) = subst (IsStrictlySortedBy R) f (sorted-drop R j ys more) in
        (λ t. distinct R (e t ++ f t))
        ∙ elim (R x y) as (λ r. R x y ≡ r → MatchOrdering r ((m ≡ x) × (k ≡ i + 1) × (l ≡ j)) ((m ≡ x) × (k ≡ i + 1) × (l ≡ j + 1)) ((m ≡ y) × (k ≡ i) × (l ≡ j + 1)) → distinct R ((x ∷ drop (i + 1) xs) ++ y ∷ drop (j + 1) ys) ≡ m ∷ distinct R (drop k xs ++ drop l ys)) [
          | Less ↦ λ h n. merge-less x y (drop (i + 1) xs) (drop (j + 1) ys) rises-x rises-y h ∙ (λ t. sym n.0 t ∷ distinct R (drop (sym n.1 t) xs ++ (sym f ∙ ap (λ q. drop q ys) (sym n.2)) t))
          | Equal ↦ λ h n. merge-equal x y (drop (i + 1) xs) (drop (j + 1) ys) rises-x rises-y h ∙ (λ t. sym n.0 t ∷ distinct R (drop (sym n.1 t) xs ++ drop (sym n.2 t) ys))
          | Greater ↦ λ h n. merge-greater x y (drop (i + 1) xs) (drop (j + 1) ys) rises-x rises-y h ∙ (λ t. sym n.0 t ∷ distinct R ((sym e ∙ ap (λ q. drop q xs) (sym n.1)) t ++ drop (sym n.2 t) ys))
        ] refl next

    -- what is left of two lists once one of them is at its end
    pub rest-distinct : (xs ys : List X) (i j : ℕ) → IsStrictlySortedBy R xs → IsStrictlySortedBy R ys → (length xs ≤ i) ⊎ (length ys ≤ j) → drop i xs ++ drop j ys ≡ distinct R (drop i xs ++ drop j ys)
    rest-distinct xs ys i j up more over =
        ⊎_elim
        (λ le. let e = drop_all i xs le in ap (λ r. r ++ drop j ys) e ∙ sym (distinct-sorted_keys o exact (drop j ys) (sorted-drop R j ys more)) ∙ ap (λ r. distinct R (r ++ drop j ys)) (sym e))
        (λ le. let e = drop_all j ys le in let n = append-nil (drop i xs) in
        ap (λ r. drop i xs ++ r) e ∙ n ∙ sym (distinct-sorted_keys o exact (drop i xs) (sorted-drop R i xs up)) ∙ ap (distinct R) (sym n) ∙ ap (λ r. distinct R (drop i xs ++ r)) (sym e))
        over
