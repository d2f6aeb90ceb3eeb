-- What stands first in order.
use Rattle.std.proofs.Common.{◌≡◌, ℕ, suc, zero, true, false, cond, List, [], ◌∷◌, ◌++◌, take, refl, sym, ap, ◌∙◌}
use Rattle.std.specs.List.{list_any, All, Contains, AllByRecursion}
use Rattle.std.specs.List.Sorted.{IsSorted}
use Rattle.std.specs.Ordering.{eq_by_cmp, is_eq, is_lt}
use Rattle.std.specs.Cmp.{IsTotalOrder}
use Rattle.std.specs.declared.cmp.Ordering.{Ordering}
use Rattle.std.proofs.lemmas.Cmp.{tied_itself}
use Rattle.std.proofs.lemmas.List.Elements.{recursion_from_All}
use Rattle.std.proofs.lemmas.List.Folds.{list_any_at}
use Rattle.std.proofs.lemmas.Map.Lookups.{CmpEqualImpliesEq}
use Rattle.sb_record.specs.Orders.{in_order, put_in_order, IsAscending}
use Rattle.sb_record.proofs.Sums.{IsReordered, IsReordered-swap, any_reordered}
use Rattle.sb_record.proofs.Sorting.{IsReordered-in_order, All-in_order, in_order-ascending, ascending-in_order, ascending-from_sorted, equal_by, not_below_first}

module _ {X : Type 0} {cmp : X → X → Ordering} (o : IsTotalOrder cmp) (exact : CmpEqualImpliesEq cmp) where
  -- an element of an ascending list that none is less than is its first
  first-ascending : (m : X) (ys : List X) → IsAscending cmp ys → AllByRecursion (λ y. is_lt (cmp y m) ≡ false) ys → list_any (eq_by_cmp cmp m) ys ≡ true → take 1 ys ≡ m ∷ []
  first-ascending m [] up all h = cc
  first-ascending m (y ∷ ys) up all h = ap (λ z. z ∷ []) (equal_by o exact y m all.0 (not_below_first o exact m y ys up.0 h))

  -- an element that none is less than is first in order
  pub first-in_order : (m : X) (vs : List X) → AllByRecursion (λ v. is_lt (cmp v m) ≡ false) vs → list_any (eq_by_cmp cmp m) vs ≡ true → take 1 (in_order cmp vs) ≡ m ∷ []
  first-in_order m vs all h =
      first-ascending m (in_order cmp vs) (in_order-ascending o vs) (All-in_order (λ v. is_lt (cmp v m) ≡ false) cmp vs all)
      (any_reordered (eq_by_cmp cmp m) (in_order cmp vs) vs (IsReordered-in_order cmp vs) ∙ h)

  -- the same, in the words of an iterator's `min`
  pub first_of : (m : X) (vs : List X) → Contains vs m → All (λ v. is_lt (cmp v m) ≡ false) vs → take 1 (in_order cmp vs) ≡ m ∷ []
  first_of m vs at all =
      first-in_order m vs (recursion_from_All (λ v. is_lt (cmp v m) ≡ false) vs all)
      (list_any_at (eq_by_cmp cmp m) vs at.0 m at.1 (ap (eq_by_cmp cmp m) at.2 ∙ ap is_eq (tied_itself o m)))

  -- a list in order is the same of elements in another order
  pub in_order-reordered : (vs ws : List X) → IsReordered vs ws → in_order cmp vs ≡ in_order cmp ws
  in_order-reordered vs ws h =
      ascending-in_order o exact (in_order cmp vs) ws (in_order-ascending o vs)
      (λ x. IsReordered-in_order cmp vs (λ z. cond (eq_by_cmp cmp x z) 1 0) ∙ h (λ z. cond (eq_by_cmp cmp x z) 1 0))

  -- what a sort leaves
  pub sort-in_order : (vs ws : List X) → IsSorted cmp ws → IsReordered ws vs → ws ≡ in_order cmp vs
  sort-in_order vs ws up h = ascending-in_order o exact ws vs (ascending-from_sorted o ws up) (λ x. h (λ z. cond (eq_by_cmp cmp x z) 1 0))

-- ---- so many of the first
fewer : {X : Type 0} (k : ℕ) (ys : List X) → take k (take (suc k) ys) ≡ take k ys
fewer zero ys = refl
fewer (suc k) [] = refl
fewer (suc k) (y ∷ ys) = ap (λ l. y ∷ l) (fewer k ys)

-- those that come first with an element more are among those that came first
take-put_in_order : {X : Type 0} (cmp : X → X → Ordering) (k : ℕ) (x : X) (ys : List X) → take k (put_in_order cmp x (take k ys)) ≡ take k (put_in_order cmp x ys)
take-put_in_order cmp zero x ys = refl
take-put_in_order cmp (suc k) x [] = refl
take-put_in_order {X} cmp (suc k) x (y ∷ ys) =
    elim (is_lt (cmp y x)) as (λ b. take (suc k) (cond b (y ∷ put_in_order cmp x (take k ys)) (x ∷ y ∷ take k ys)) ≡ take (suc k) (cond b (y ∷ put_in_order cmp x ys) (x ∷ y ∷ ys))) [
      | true ↦ ap (λ l. y ∷ l) (take-put_in_order cmp k x ys)
      | false ↦ ap (λ l. x ∷ l) (both k)
    ]
  where
    both : (k : ℕ) → take k (y ∷ take k ys) ≡ take k (y ∷ ys)
    both zero = refl
    both (suc k) = ap (λ l. y ∷ l) (fewer k ys)

module _ {X : Type 0} {cmp : X → X → Ordering} (o : IsTotalOrder cmp) (exact : CmpEqualImpliesEq cmp) where
  take-ascending : (k : ℕ) (ys : List X) → IsAscending cmp ys → IsAscending cmp (take k ys)
  take-ascending zero ys up = tt
  take-ascending (suc k) [] up = tt
  take-ascending (suc k) (y ∷ ys) up = (within k ys up.0, take-ascending k ys up.1)
    where
      within : (k : ℕ) (ys : List X) → AllByRecursion (λ z. is_lt (cmp z y) ≡ false) ys → AllByRecursion (λ z. is_lt (cmp z y) ≡ false) (take k ys)
      within zero ys all = tt
      within (suc k) [] all = tt
      within (suc k) (z ∷ ys) all = (all.0, within k ys all.1)

  -- those that come first of other elements and of these depend on those that come first of these alone
  after-others : (k : ℕ) (ws us vs : List X) → take k (in_order cmp us) ≡ take k (in_order cmp vs) → take k (in_order cmp (ws ++ us)) ≡ take k (in_order cmp (ws ++ vs))
  after-others k [] us vs same = same
  after-others k (w ∷ ws) us vs same =
      sym (take-put_in_order cmp k w (in_order cmp (ws ++ us)))
      ∙ ap (λ l. take k (put_in_order cmp w l)) (after-others k ws us vs same)
      ∙ take-put_in_order cmp k w (in_order cmp (ws ++ vs))

  -- so it is enough to keep those that come first
  pub firsts-kept : (k : ℕ) (vs ws : List X) → take k (in_order cmp (take k (in_order cmp vs) ++ ws)) ≡ take k (in_order cmp (vs ++ ws))
  firsts-kept k vs ws =
      ap (take k) (in_order-reordered o exact (take k (in_order cmp vs) ++ ws) (ws ++ take k (in_order cmp vs)) (IsReordered-swap (take k (in_order cmp vs)) ws))
      ∙ after-others k ws (take k (in_order cmp vs)) vs again
      ∙ ap (take k) (in_order-reordered o exact (ws ++ vs) (vs ++ ws) (IsReordered-swap ws vs))
    where
      itself : take k (in_order cmp vs) ≡ in_order cmp (take k (in_order cmp vs))
      itself = ascending-in_order o exact (take k (in_order cmp vs)) (take k (in_order cmp vs)) (take-ascending k (in_order cmp vs) (in_order-ascending o vs)) (λ x. refl)

      twice : (k : ℕ) (ys : List X) → take k (take k ys) ≡ take k ys
      twice zero ys = refl
      twice (suc k) [] = refl
      twice (suc k) (y ∷ ys) = ap (λ l. y ∷ l) (twice k ys)

      again : take k (in_order cmp (take k (in_order cmp vs))) ≡ take k (in_order cmp vs)
      again = ap (take k) (sym itself) ∙ twice k (in_order cmp vs)
