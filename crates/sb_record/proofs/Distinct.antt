-- The elements of a list, each once, in order.
use Rattle.std.proofs.Common.{◌≡◌, Bool, true, false, List, [], ◌∷◌, sym, refl, ap, ◌∙◌}
use Rattle.std.specs.Prelude.{◌||◌, ◌&&◌}
use Rattle.std.specs.List.{filter, list_any, AllByRecursion}
use Rattle.std.specs.List.Sorted.{IsStrictlySortedBy}
use Rattle.std.specs.Ordering.{eq_by_cmp, ordering_reverse}
use Rattle.std.specs.Cmp.{IsTotalOrder}
use Rattle.std.specs.declared.cmp.Ordering.{Ordering}
use Rattle.std.specs.declared.cmp.Ordering.TheVariants.{Less, Equal, Greater}
use Rattle.std.proofs.lemmas.List.Kept.{IsStrictlySortedBy-filter}
use Rattle.std.proofs.Math.Bool.{or_assoc, or_comm, or_self_left}
use Rattle.std.proofs.lemmas.Map.Lookups.{CmpEqualImpliesEq, btree_set_from_contains}
use Rattle.std.proofs.lemmas.Map.Views.{any-filter_same, tells_apart}
use Rattle.sb_record.specs.Orders.{put_once, distinct, by_ordering}
use Rattle.sb_record.proofs.Elements.{every}

or_swap : (a b c : Bool) → (a || (b || c)) ≡ (b || (a || c))
or_swap a b c = sym (or_assoc a b c) ∙ ap (λ d. d || c) (or_comm a b) ∙ or_assoc b a c

module _ {X : Type 0} {R : X → X → Ordering} (o : IsTotalOrder R) where
  all_put_once : (P : X → Type 0) (x : X) (ys : List X) → P x → AllByRecursion P ys → AllByRecursion P (put_once R x ys)
  all_put_once P x [] h all = (h, all)
  all_put_once P x (y ∷ ys) h all =
      elim (R x y) as (λ r. AllByRecursion P (by_ordering r (x ∷ y ∷ ys) (y ∷ ys) (y ∷ put_once R x ys))) [
        | Less ↦ (h, all)
        | Equal ↦ all
        | Greater ↦ (all.0, all_put_once P x ys h all.1)
      ]

  put_once-sorted : (x : X) (ys : List X) → IsStrictlySortedBy R ys → IsStrictlySortedBy R (put_once R x ys)
  unfolding IsStrictlySortedBy
  put_once-sorted x [] s = (tt, tt)
  put_once-sorted x (y ∷ ys) s =
      elim (R x y) as (λ r. R x y ≡ r → IsStrictlySortedBy R (by_ordering r (x ∷ y ∷ ys) (y ∷ ys) (y ∷ put_once R x ys))) [
        | Less ↦ λ e. ((e, every (λ z h. o.trans x y z e h) ys s.0), s)
        | Equal ↦ λ e. s
        | Greater ↦ λ e. (all_put_once (λ z. R y z ≡ Less) x ys (o.antisymm y x ∙ ap ordering_reverse e) s.0, put_once-sorted x ys s.1)
      ] refl

  pub distinct-sorted : (xs : List X) → IsStrictlySortedBy R (distinct R xs)
  unfolding IsStrictlySortedBy
  distinct-sorted [] = tt
  distinct-sorted (x ∷ xs) = put_once-sorted x (distinct R xs) (distinct-sorted xs)

  module _ (exact : CmpEqualImpliesEq R) where
    pub any_put_once : (q x : X) (ys : List X) → list_any (eq_by_cmp R q) (put_once R x ys) ≡ (eq_by_cmp R q x || list_any (eq_by_cmp R q) ys)
    any_put_once q x [] = refl
    any_put_once q x (y ∷ ys) =
        elim (R x y) as (λ r. R x y ≡ r → list_any (eq_by_cmp R q) (by_ordering r (x ∷ y ∷ ys) (y ∷ ys) (y ∷ put_once R x ys)) ≡ (eq_by_cmp R q x || (eq_by_cmp R q y || list_any (eq_by_cmp R q) ys))) [
          | Less ↦ λ e. refl
          | Equal ↦ λ e. sym (ap (λ z. eq_by_cmp R q z || (eq_by_cmp R q y || list_any (eq_by_cmp R q) ys)) (exact x y e) ∙ or_self_left (eq_by_cmp R q y) _)
          | Greater ↦ λ e. ap (λ b. eq_by_cmp R q y || b) (any_put_once q x ys) ∙ or_swap (eq_by_cmp R q y) (eq_by_cmp R q x) _
        ] refl

    pub any_distinct : (q : X) (xs : List X) → list_any (eq_by_cmp R q) (distinct R xs) ≡ list_any (eq_by_cmp R q) xs
    any_distinct q [] = refl
    any_distinct q (x ∷ xs) = any_put_once q x (distinct R xs) ∙ ap (λ b. eq_by_cmp R q x || b) (any_distinct q xs)

    any_filter : (p : X → Bool) (q : X) (xs : List X) → list_any (eq_by_cmp R q) (filter p xs) ≡ (p q && list_any (eq_by_cmp R q) xs)
    any_filter p q xs = any-filter_same (eq_by_cmp R q) p (p q) (λ x same. ap p (sym (tells_apart exact q x same))) xs

    -- where both lists have the same of what passes, what passes is the same list
    pub distinct-same : (p : X → Bool) (xs ys : List X) → ((q : X) → p q ≡ true → list_any (eq_by_cmp R q) xs ≡ list_any (eq_by_cmp R q) ys) → filter p (distinct R xs) ≡ filter p (distinct R ys)
    distinct-same p xs ys same =
        btree_set_from_contains o (record { keys = filter p (distinct R xs) }) (record { keys = filter p (distinct R ys) })
        (IsStrictlySortedBy-filter R p (distinct R xs) (distinct-sorted xs)) (IsStrictlySortedBy-filter R p (distinct R ys) (distinct-sorted ys))
        (λ q. any_filter p q (distinct R xs) ∙ ap (λ b. p q && b) (any_distinct q xs) ∙ both q ∙ sym (any_filter p q (distinct R ys) ∙ ap (λ b. p q && b) (any_distinct q ys))) exact
      where
        both : (q : X) → (p q && list_any (eq_by_cmp R q) xs) ≡ (p q && list_any (eq_by_cmp R q) ys)
        both q = elim (p q) as (λ b. ((b ≡ true) → list_any (eq_by_cmp R q) xs ≡ list_any (eq_by_cmp R q) ys) → (b && list_any (eq_by_cmp R q) xs) ≡ (b && list_any (eq_by_cmp R q) ys)) [ true ↦ λ h. h refl | false ↦ λ h. refl ] (same q)
