-- What is made of values is the same in every order.
use Rattle.std.proofs.Common.{◌≡◌, false, ℤ, ◌%◌, ◌^◌, List, [], ◌∷◌, length, take, get_or, All, Contains, sym, refl, ap, ◌∙◌, arith, w64}
use Rattle.std.specs.Prelude.{sum_by}
use Rattle.std.specs.Int.{cast_signed, cast_unsigned}
use Rattle.std.specs.Ordering.{int_cmp, flip_args, is_lt, is_gt, ordering_reverse}
use Rattle.std.specs.Cmp.{IsTotalOrder, int_cmp_total}
use Rattle.std.proofs.lemmas.Cmp.{back_total}
use Rattle.std.proofs.lemmas.List.Recursion.{is_sum_by}
use Rattle.std.proofs.lemmas.Map.Lookups.{CmpEqualImpliesEq, exact_signed}
use Rattle.sb_window.specs.records.Orders.{in_order}
use Rattle.std.specs.declared.cmp.Ordering.TheVariants.{Less, Equal, Greater}
use Rattle.sb_window.proofs.Rows.{rows_by-order}
use Rattle.sb_windowed.specs.declared.aggregate.Agg.TheVariants.{Count, Sum, Min, Max, Distinct, Top}
use Rattle.sb_windowed.specs.Aggregates.{signed_value, greatest_first, aggregate_values}
use Rattle.sb_windowed.specs.Laws.{AggregatesDoNotDependOnOrder, AggregateRowsDoNotDependOnOrder}
use Rattle.sb_window.specs.FirstLemmas.{first_of, in_order-reordered}
use Rattle.sb_window.specs.DifferentLemmas.{distinct-reordered}

-- the order of values, greatest first
pub greatest_total : IsTotalOrder (flip_args int_cmp)
greatest_total = back_total int_cmp_total

pub exact_greatest : CmpEqualImpliesEq (flip_args int_cmp)
exact_greatest x y h = sym (exact_signed y x h)

-- what the `min` and `max` of an iterator give is first in order
pub least_first : (m : ℤ) (vs : List ℤ) → Contains vs m → All (λ v. is_lt (int_cmp v m) ≡ false) vs
    → take 1 (in_order int_cmp vs) ≡ m ∷ []
least_first m vs at low = first_of int_cmp_total exact_signed m vs at low

pub greatest_first_of : (m : ℤ) (vs : List ℤ) → Contains vs m → All (λ v. is_gt (int_cmp v m) ≡ false) vs
    → take 1 (greatest_first vs) ≡ m ∷ []
greatest_first_of m vs at high =
    first_of greatest_total exact_greatest m vs at (λ k d h. flipped (get_or vs k d) ∙ high k d h)
  where
    flipped : (v : ℤ) → is_lt (int_cmp m v) ≡ is_gt (int_cmp v m)
    flipped v =
        ap is_lt (int_cmp_total.antisymm m v)
        ∙ (elim (int_cmp v m) as (λ r. is_lt (ordering_reverse r) ≡ is_gt r)
        [ Less ↦ refl | Equal ↦ refl | Greater ↦ refl ])

length_is_sum : (vs : List ℤ) → length vs ≡ sum_by (λ v. 1) vs
length_is_sum vs = is_sum_by length (λ v. 1) refl (λ v vs. omega arith) vs

pub aggregates-orderless : AggregatesDoNotDependOnOrder
aggregates-orderless Count vs ws h =
    ap (λ n. signed_value n ∷ []) (length_is_sum vs ∙ h (λ v. 1) ∙ sym (length_is_sum ws))
aggregates-orderless Sum vs ws h = ap (λ n. cast_signed w64 (n % 2 ^ 64) ∷ []) (h (cast_unsigned w64))
aggregates-orderless Min vs ws h = ap (take 1) (in_order-reordered int_cmp_total exact_signed vs ws h)
aggregates-orderless Max vs ws h = ap (take 1) (in_order-reordered greatest_total exact_greatest vs ws h)
aggregates-orderless Distinct vs ws h =
    ap (λ ds. signed_value (length ds) ∷ []) (distinct-reordered int_cmp_total exact_signed vs ws h)
aggregates-orderless (Top k) vs ws h = ap (take k) (in_order-reordered greatest_total exact_greatest vs ws h)

pub aggregate_rows-orderless : AggregateRowsDoNotDependOnOrder
aggregate_rows-orderless agg windows l m h =
    rows_by-order (aggregate_values agg) windows (aggregates-orderless agg) l m h
