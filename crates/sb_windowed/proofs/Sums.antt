-- Sums that wrap.
use Rattle.std.proofs.Common.{◌≡◌, ℕ, ℤ, ◌+◌, ◌%◌, ◌^◌, List, [], ◌∷◌, ap, ◌∙◌, sym, add-zero, arith, w64}
use Rattle.std.specs.Prelude.{fold, sum_by}
use Rattle.std.specs.Int.{cast_signed, cast_unsigned, int_wrapping_add}
use Rattle.std.proofs.lemmas.Int.{of_z-to_z}
use Rattle.std.proofs.lemmas.List.Sums.{sum_by-cons}
use Rattle.std.proofs.Math.Nat.{mod-add-mod}

-- to wrap on the way changes nothing
pub fold-wrapping_add : (n : ℕ) (vs : List ℤ) → fold (int_wrapping_add w64) (cast_signed w64 (n % 2 ^ 64)) vs ≡ cast_signed w64 ((n + sum_by (cast_unsigned w64) vs) % 2 ^ 64)
fold-wrapping_add n [] = ap (λ m. cast_signed w64 (m % 2 ^ 64)) (sym (add-zero n))
fold-wrapping_add n (v ∷ vs) =
    ap (λ m. fold (int_wrapping_add w64) (cast_signed w64 ((m + cast_unsigned w64 v) % 2 ^ 64)) vs) (of_z-to_z w64 (n % 2 ^ 64) (omega arith))
    ∙ ap (λ m. fold (int_wrapping_add w64) (cast_signed w64 m) vs) (mod-add-mod n (2 ^ 64) (cast_unsigned w64 v))
    ∙ fold-wrapping_add (n + cast_unsigned w64 v) vs
    ∙ ap (λ m. cast_signed w64 (m % 2 ^ 64)) (more (sum_by-cons (cast_unsigned w64) v vs))
  where
    more : sum_by (cast_unsigned w64) (v ∷ vs) ≡ cast_unsigned w64 v + sum_by (cast_unsigned w64) vs → n + cast_unsigned w64 v + sum_by (cast_unsigned w64) vs ≡ n + sum_by (cast_unsigned w64) (v ∷ vs)
    more h = omega arith
