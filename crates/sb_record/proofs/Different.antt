-- The different elements of a list.
use Rattle.std.proofs.Common.{◌≡◌, ◌<◌, Bool, true, false, cond, List, [], ◌∷◌, ◌++◌, length, sym, refl, ap, ◌∙◌, arith}
use Rattle.std.specs.Prelude.{◌||◌}
use Rattle.std.specs.List.{list_any, dedup, Contains}
use Rattle.std.specs.List.Sorted.{IsSorted, IsStrictlySortedBy}
use Rattle.std.specs.BTreeMap.{is_at}
use Rattle.std.specs.BTreeSet.{BTreeSet, IsOrdered, contains, insert_key}
use Rattle.std.specs.Ordering.{eq_by_cmp, match_ordering}
use Rattle.std.specs.Cmp.{IsTotalOrder, eq_by_cmp_equiv}
use Rattle.std.specs.declared.cmp.Ordering.{Ordering}
use Rattle.std.specs.declared.cmp.Ordering.TheVariants.{Less, Equal, Greater}
use Rattle.std.proofs.lemmas.Bool.Decides.{same_from_decides}
use Rattle.std.proofs.lemmas.List.Folds.{list_any-append, Any-from_list_any, list_any-from_Any}
use Rattle.std.proofs.lemmas.List.Kept.{IsStrictlySortedBy-dedup, Contains-dedup, Contains-from_dedup}
use Rattle.std.proofs.lemmas.Map.Lookups.{CmpEqualImpliesEq, btree_set_from_contains}
use Rattle.std.proofs.lemmas.Map.Views.{tells_apart}
use Rattle.sb_record.specs.Orders.{distinct, put_once, by_ordering}
use Rattle.sb_record.proofs.Sums.{IsReordered, IsReordered-swap, any_reordered}
use Rattle.sb_record.proofs.Distinct.{distinct-sorted, any_put_once, any_distinct}

-- one passes where one of fewer elements does
any_among : {X : Type 0} (p : X → Bool) (xs ys : List X) → ((x : X) → Contains xs x → Contains ys x) → list_any p xs ≡ true → list_any p ys ≡ true
any_among p xs ys among some =
    let (k, x, within, at, passes) = Any-from_list_any p xs some in
    let (j, below, is) = among x (k, within, at) in
    list_any-from_Any p ys (j, x, below, is, passes)

-- the different elements of a list that has some
pub some-distinct : {X : Type 0} (R : X → X → Ordering) (vs : List X) → 0 < length vs → 0 < length (distinct R vs)
some-distinct R [] h = h
some-distinct {X} R (v ∷ vs) h = some (distinct R vs)
  where
    some : (ds : List X) → 0 < length (put_once R v ds)
    some [] = omega arith
    some (d ∷ ds) = elim (R v d) as (λ r. 0 < length (by_ordering r (v ∷ d ∷ ds) (d ∷ ds) (d ∷ put_once R v ds))) [ Less ↦ omega arith | Equal ↦ omega arith | Greater ↦ omega arith ]

module _ {X : Type 0} {R : X → X → Ordering} (o : IsTotalOrder R) (exact : CmpEqualImpliesEq R) where
  -- the different elements are the same of elements in another order
  pub distinct-reordered : (vs ws : List X) → IsReordered vs ws → distinct R vs ≡ distinct R ws
  distinct-reordered vs ws h =
      btree_set_from_contains o (record { keys = distinct R vs }) (record { keys = distinct R ws }) (distinct-sorted o vs) (distinct-sorted o ws)
      (λ q. any_distinct o exact q vs ∙ any_reordered (eq_by_cmp R q) vs ws h ∙ sym (any_distinct o exact q ws)) exact

  -- `dedup` takes away no element wholly
  any_dedup : (p : X → Bool) (xs : List X) → list_any p (dedup (eq_by_cmp R) xs) ≡ list_any p xs
  any_dedup p xs =
      same_from_decides (list_any p (dedup (eq_by_cmp R) xs)) (list_any p xs)
      (any_among p (dedup (eq_by_cmp R) xs) xs (Contains-from_dedup (eq_by_cmp R) xs), any_among p xs (dedup (eq_by_cmp R) xs) (Contains-dedup (eq_by_cmp_equiv o) (tells_apart exact) xs)) (λ h. h, λ h. h)

  -- what `dedup` leaves of a sorted list
  pub dedup-distinct : (same : X → X → Bool) → ((x y : X) → same x y ≡ eq_by_cmp R x y) → (vs ws : List X) → IsSorted R ws → IsReordered ws vs → dedup same ws ≡ distinct R vs
  dedup-distinct same ties vs ws up h =
      (λ i. dedup (λ x y. ties x y i) ws)
      ∙ btree_set_from_contains o (record { keys = dedup (eq_by_cmp R) ws }) (record { keys = distinct R vs }) (IsStrictlySortedBy-dedup o (λ x y. refl) ws up) (distinct-sorted o vs)
      (λ q. any_dedup (eq_by_cmp R q) ws ∙ any_reordered (eq_by_cmp R q) ws vs h ∙ sym (any_distinct o exact q vs)) exact

  -- it is enough to keep the different elements
  pub distinct-kept : (vs ws : List X) → distinct R (distinct R vs ++ ws) ≡ distinct R (vs ++ ws)
  distinct-kept vs ws =
      btree_set_from_contains o (record { keys = distinct R (distinct R vs ++ ws) }) (record { keys = distinct R (vs ++ ws) }) (distinct-sorted o (distinct R vs ++ ws)) (distinct-sorted o (vs ++ ws))
      (λ q. any_distinct o exact q (distinct R vs ++ ws) ∙ list_any-append (eq_by_cmp R q) (distinct R vs) ws ∙ ap (λ b. b || list_any (eq_by_cmp R q) ws) (any_distinct o exact q vs) ∙ sym (list_any-append (eq_by_cmp R q) vs ws) ∙ sym (any_distinct o exact q (vs ++ ws))) exact

  -- a set to which an element is added
  insert-put_once : (x : X) (ys : List X) → insert_key R ys x ≡ put_once R x ys
  insert-put_once x [] = refl
  insert-put_once x (y ∷ ys) =
      elim (R x y) as (λ r. match_ordering r (x ∷ y ∷ ys) (y ∷ ys) (y ∷ insert_key R ys x) ≡ by_ordering r (x ∷ y ∷ ys) (y ∷ ys) (y ∷ put_once R x ys)) [
        | Less ↦ refl
        | Equal ↦ refl
        | Greater ↦ ap (λ l. y ∷ l) (insert-put_once x ys)
      ]

  pub distinct-insert : (x : X) (xs : List X) → insert_key R (distinct R xs) x ≡ distinct R (xs ++ x ∷ [])
  distinct-insert x xs = insert-put_once x (distinct R xs) ∙ distinct-reordered (x ∷ xs) (xs ++ x ∷ []) (IsReordered-swap (x ∷ []) xs)

  -- the different elements of a set are its elements
  pub distinct-sorted_keys : (xs : List X) → IsStrictlySortedBy R xs → distinct R xs ≡ xs
  distinct-sorted_keys xs up =
      btree_set_from_contains o (record { keys = distinct R xs }) (record { keys = xs }) (distinct-sorted o xs) up (λ q. any_distinct o exact q xs) exact

  -- to add an element now or to add it later gives the same elements
  pub distinct-moved : (x : X) (xs ys : List X) → distinct R (insert_key R xs x ++ ys) ≡ distinct R (xs ++ x ∷ ys)
  distinct-moved x xs ys =
      btree_set_from_contains o (record { keys = distinct R (insert_key R xs x ++ ys) }) (record { keys = distinct R (xs ++ x ∷ ys) }) (distinct-sorted o (insert_key R xs x ++ ys)) (distinct-sorted o (xs ++ x ∷ ys))
      (λ q. any_distinct o exact q (insert_key R xs x ++ ys) ∙ list_any-append (eq_by_cmp R q) (insert_key R xs x) ys ∙ ap (λ l. list_any (eq_by_cmp R q) l || list_any (eq_by_cmp R q) ys) (insert-put_once x xs)
      ∙ ap (λ b. b || list_any (eq_by_cmp R q) ys) (any_put_once o exact q x xs)
      ∙ or_moved (eq_by_cmp R q x) (list_any (eq_by_cmp R q) xs) (list_any (eq_by_cmp R q) ys)
      ∙ sym (list_any-append (eq_by_cmp R q) xs (x ∷ ys)) ∙ sym (any_distinct o exact q (xs ++ x ∷ ys))) exact
    where
      or_moved : (a b c : Bool) → ((a || b) || c) ≡ (b || (a || c))
      or_moved true true c = refl
      or_moved true false c = refl
      or_moved false true c = refl
      or_moved false false c = refl

  -- what a set becomes by an element more
  pub distinct-updated : (s t : BTreeSet X) (x : X) → IsOrdered R t → ((q : X) → contains R t q ≡ cond (is_at (R x) q) true (contains R s q)) → t.keys ≡ distinct R (s.keys ++ x ∷ [])
  distinct-updated s t x up has =
      btree_set_from_contains o t (record { keys = distinct R (s.keys ++ x ∷ []) }) up (distinct-sorted o (s.keys ++ x ∷ []))
      (λ q. has q ∙ ap (λ b. cond b true (contains R s q)) ((eq_by_cmp_equiv o).symm x q) ∙ at_last (eq_by_cmp R q x) (contains R s q)
      ∙ sym (list_any-append (eq_by_cmp R q) s.keys (x ∷ [])) ∙ sym (any_distinct o exact q (s.keys ++ x ∷ []))) exact
    where
      at_last : (a b : Bool) → cond a true b ≡ (b || (a || false))
      at_last true true = refl
      at_last true false = refl
      at_last false true = refl
      at_last false false = refl
