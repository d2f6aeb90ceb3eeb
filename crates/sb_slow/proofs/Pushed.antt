-- One value more at the end of a list that may be absent.
use Rattle.std.proofs.Common.{◌≡◌, ℤ, List, [], ◌∷◌, ◌++◌, Option, Some, None, unwrap_or, refl}
use Rattle.sb_slow.specs.Gathered.{values_with}

pub Some-pushed : (first : Option (List ℤ)) (v : ℤ) → Some (unwrap_or first [] ++ v ∷ []) ≡ values_with first (Some (v ∷ []))
Some-pushed None v = refl
Some-pushed (Some vs) v = refl
