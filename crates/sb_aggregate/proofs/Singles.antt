-- Partial values that are single numbers.
use Rattle.std.proofs.Common.{◌≡◌, ℤ, ◌+◌, ◌%◌, ◌^◌, ◌<◌, true, List, [], ◌∷◌, SFits, w64, refl, ap, ◌∙◌, arith}
use Rattle.std.specs.Prelude.{sum_by}
use Rattle.std.specs.Int.{cast_unsigned, cast_signed}
use Rattle.std.proofs.lemmas.Int.{to_z-of_z}
use mir.ValLaws.{of_z_fits}
use Rattle.std.proofs.lemmas.List.Sums.{sum_by-cons}
use Rattle.sb_runs.specs.window.Aggregations.{sum_values}
use Rattle.sb_windowed.specs.declared.aggregate.Agg.{Agg}
use Rattle.sb_windowed.specs.declared.aggregate.Agg.TheVariants.{Count, Sum, Min, Max, Distinct, Top}
use Rattle.sb_aggregate.specs.Partials.{final_values, is_single, joining, partial_values}

sum-one : (v : ℤ) → SFits w64 v → sum_values (v ∷ []) ≡ v ∷ []
sum-one v fits = ap (λ n. cast_signed w64 n ∷ []) (same (sum_by-cons (cast_unsigned w64) v [])) ∙ ap (λ z. z ∷ []) (to_z-of_z w64 v fits)
  where
    small : cast_unsigned w64 v < 2 ^ 64
    small = (of_z_fits w64 v fits).fits

    same : sum_by (cast_unsigned w64) (v ∷ []) ≡ cast_unsigned w64 v + 0 → sum_by (cast_unsigned w64) (v ∷ []) % 2 ^ 64 ≡ cast_unsigned w64 v
    same h = omega (arith, h, small)

-- the partial value of a single number is that number
pub one-is-single : (agg : Agg) → is_single agg ≡ true → (v : ℤ) → SFits w64 v → partial_values (joining agg) (v ∷ []) ≡ v ∷ []
one-is-single Count h v fits = sum-one v fits
one-is-single Sum h v fits = sum-one v fits
one-is-single Min h v fits = refl
one-is-single Max h v fits = refl
one-is-single Distinct h v fits = cc
one-is-single (Top k) h v fits = cc

-- and what is made of it
pub final-is-single : (agg : Agg) → is_single agg ≡ true → (vs : List ℤ) → final_values agg vs ≡ vs
final-is-single Count h vs = refl
final-is-single Sum h vs = refl
final-is-single Min h vs = refl
final-is-single Max h vs = refl
final-is-single Distinct h vs = cc
final-is-single (Top k) h vs = cc
