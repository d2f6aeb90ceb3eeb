-- The partial value of values is made of those of their parts.
use Rattle.std.proofs.Common.{◌≡◌, ℕ, ℤ, ◌+◌, ◌%◌, ◌^◌, List, [], ◌∷◌, ◌++◌, length, append_assoc, sym, refl, ap, ◌∙◌, arith, w64, length-append}
use Rattle.std.specs.Prelude.{sum_by}
use Rattle.std.specs.Int.{cast_signed, cast_unsigned, int_wrapping_add}
use Rattle.std.specs.Cmp.{int_cmp_total}
use Rattle.std.proofs.Math.Nat.{mod-add-mod, add-mod}
use Rattle.std.proofs.lemmas.Int.{of_z-to_z}
use Rattle.std.proofs.lemmas.List.Sums.{sum_by-append, sum_by-cons}
use Rattle.std.proofs.lemmas.Map.Lookups.{exact_signed}
use Rattle.sb_runs.proofs.records.Sums.{IsReordered-swap}
use Rattle.sb_runs.proofs.records.Firsts.{firsts-kept}
use Rattle.sb_runs.proofs.records.Different.{distinct-reordered, distinct-kept}
use Rattle.sb_runs.specs.window.Reorderings.{IgnoresOrder}
use Rattle.sb_runs.specs.window.Aggregations.{sum_values}
use Rattle.sb_windowed.specs.declared.aggregate.Agg.{Agg}
use Rattle.sb_windowed.specs.declared.aggregate.Agg.TheVariants.{Count, Sum, Min, Max, Distinct, Top}
use Rattle.sb_windowed.specs.Aggregates.{IsValid, signed_value, aggregate_values}
use Rattle.sb_windowed.proofs.Orderless.{greatest_total, exact_greatest, aggregates-orderless}
use Rattle.sb_aggregate.specs.Partials.{partial_values, joining, join_values, final_values}
use Rattle.sb_runs.specs.Runs.{IsAssociative}

pub partials-orderless : (agg : Agg) → IgnoresOrder (partial_values agg)
partials-orderless Count vs ws h = aggregates-orderless Count vs ws h
partials-orderless Sum vs ws h = aggregates-orderless Sum vs ws h
partials-orderless Min vs ws h = aggregates-orderless Min vs ws h
partials-orderless Max vs ws h = aggregates-orderless Max vs ws h
partials-orderless Distinct vs ws h = distinct-reordered int_cmp_total exact_signed vs ws h
partials-orderless (Top k) vs ws h = aggregates-orderless (Top k) vs ws h

-- ---- sums
sum-unsigned : (n : ℕ) → cast_unsigned w64 (cast_signed w64 (n % 2 ^ 64)) ≡ n % 2 ^ 64
sum-unsigned n = of_z-to_z w64 (n % 2 ^ 64) (omega arith)

-- the sum of two values
pub sum_of_two : (v w : ℤ) → sum_values (v ∷ w ∷ []) ≡ int_wrapping_add w64 v w ∷ []
sum_of_two v w = ap (λ n. cast_signed w64 (n % 2 ^ 64) ∷ []) (two (sum_by-cons (cast_unsigned w64) v (w ∷ [])) (sum_by-cons (cast_unsigned w64) w []))
  where
    two : sum_by (cast_unsigned w64) (v ∷ w ∷ []) ≡ cast_unsigned w64 v + sum_by (cast_unsigned w64) (w ∷ []) → sum_by (cast_unsigned w64) (w ∷ []) ≡ cast_unsigned w64 w + 0 → sum_by (cast_unsigned w64) (v ∷ w ∷ []) ≡ cast_unsigned w64 v + cast_unsigned w64 w
    two a b = omega (arith, a, b)

sum-kept : (vs ws : List ℤ) → sum_values (sum_values vs ++ ws) ≡ sum_values (vs ++ ws)
sum-kept vs ws =
    ap (λ n. cast_signed w64 (n % 2 ^ 64) ∷ []) (sum_by-cons (cast_unsigned w64) (cast_signed w64 (sum_by (cast_unsigned w64) vs % 2 ^ 64)) ws ∙ ap (λ n. n + sum_by (cast_unsigned w64) ws) (sum-unsigned (sum_by (cast_unsigned w64) vs)))
    ∙ ap (λ n. cast_signed w64 n ∷ []) (mod-add-mod (sum_by (cast_unsigned w64) vs) (2 ^ 64) (sum_by (cast_unsigned w64) ws))
    ∙ ap (λ n. cast_signed w64 (n % 2 ^ 64) ∷ []) (sym (sum_by-append (cast_unsigned w64) vs ws))

counts-added : (vs ws : List ℤ) → signed_value (length (vs ++ ws)) ∷ [] ≡ sum_values (signed_value (length vs) ∷ signed_value (length ws) ∷ [])
counts-added vs ws =
    ap (λ n. cast_signed w64 n ∷ []) (ap (λ n. n % 2 ^ 64) (length-append vs ws) ∙ add-mod (length vs) (length ws) (2 ^ 64) ∙ (λ i. (sym (sum-unsigned (length vs)) i + sym (sum-unsigned (length ws)) i) % 2 ^ 64))
    ∙ sym (sum_of_two (signed_value (length vs)) (signed_value (length ws)))

-- ---- partial values of partial values
pub kept : (agg : Agg) → (vs ws : List ℤ) → partial_values (joining agg) (partial_values (joining agg) vs ++ ws) ≡ partial_values (joining agg) (vs ++ ws)
kept Count vs ws = sum-kept vs ws
kept Sum vs ws = sum-kept vs ws
kept Min vs ws = firsts-kept int_cmp_total exact_signed 1 vs ws
kept Max vs ws = firsts-kept greatest_total exact_greatest 1 vs ws
kept Distinct vs ws = distinct-kept int_cmp_total exact_signed vs ws
kept (Top k) vs ws = firsts-kept greatest_total exact_greatest k vs ws

-- the partial values of two lists of partial values are joined
pub both-kept : (agg : Agg) → (vs ws : List ℤ) → partial_values (joining agg) (vs ++ ws) ≡ partial_values (joining agg) (partial_values (joining agg) vs ++ partial_values (joining agg) ws)
both-kept agg vs ws =
    sym (kept agg vs ws)
    ∙ swapped (partial_values (joining agg) vs) ws
    ∙ sym (kept agg ws (partial_values (joining agg) vs))
    ∙ swapped (partial_values (joining agg) ws) (partial_values (joining agg) vs)
  where
    swapped : (xs ys : List ℤ) → partial_values (joining agg) (xs ++ ys) ≡ partial_values (joining agg) (ys ++ xs)
    swapped xs ys = partials-orderless (joining agg) (xs ++ ys) (ys ++ xs) (IsReordered-swap xs ys)

-- the partial value of two lists is made of those of each
pub partials-joined : (agg : Agg) (vs ws : List ℤ) → partial_values agg (vs ++ ws) ≡ join_values agg (partial_values agg vs) (partial_values agg ws)
partials-joined Count vs ws = counts-added vs ws
partials-joined Sum vs ws = both-kept Sum vs ws
partials-joined Min vs ws = both-kept Min vs ws
partials-joined Max vs ws = both-kept Max vs ws
partials-joined Distinct vs ws = both-kept Distinct vs ws
partials-joined (Top k) vs ws = both-kept (Top k) vs ws

pub join_values-swapped : (agg : Agg) (vs ws : List ℤ) → join_values agg vs ws ≡ join_values agg ws vs
join_values-swapped agg vs ws = partials-orderless (joining agg) (vs ++ ws) (ws ++ vs) (IsReordered-swap vs ws)

-- of three partial values it does not matter which two are joined first
pub join_values-grouped : (agg : Agg) → IsAssociative (join_values agg)
join_values-grouped agg us vs ws =
    kept agg (us ++ vs) ws
    ∙ ap (partial_values (joining agg)) (append_assoc us vs ws)
    ∙ join_values-swapped agg us (vs ++ ws)
    ∙ sym (kept agg (vs ++ ws) us)
    ∙ join_values-swapped agg (join_values agg vs ws) us

-- what is made of a partial value is what is made of its values
pub final-partial : (agg : Agg) (vs : List ℤ) → final_values agg (partial_values agg vs) ≡ aggregate_values agg vs
final-partial Count vs = refl
final-partial Sum vs = refl
final-partial Min vs = refl
final-partial Max vs = refl
final-partial Distinct vs = refl
final-partial (Top k) vs = refl

-- a single value stands for the two that it was made of
pub one-kept : (agg : Agg) (value v w : ℤ) → value ∷ [] ≡ join_values agg (v ∷ []) (w ∷ []) → partial_values (joining agg) (value ∷ []) ≡ partial_values (joining agg) (v ∷ w ∷ [])
one-kept agg value v w is = ap (λ vs. partial_values (joining agg) (vs ++ [])) is ∙ kept agg (v ∷ w ∷ []) []

pub valid-joining : (agg : Agg) → IsValid agg → IsValid (joining agg)
valid-joining Count valid = tt
valid-joining Sum valid = tt
valid-joining Min valid = tt
valid-joining Max valid = tt
valid-joining Distinct valid = tt
valid-joining (Top k) valid = valid
