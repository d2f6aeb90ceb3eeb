-- Numbers an equal step apart.
use Rattle.std.specs.Prelude.{ℕ, suc, zero, ◌+◌, List, [], ◌∷◌}

-- so many numbers from the first on, each a step after the one before
abbrev pub progression : ℕ → ℕ → ℕ → List ℕ
progression first step zero = []
progression first step (suc count) = first ∷ progression (first + step) step count
