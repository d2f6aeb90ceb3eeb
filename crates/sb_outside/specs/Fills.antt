-- What a read does to the bytes at hand.
use Rattle.std.specs.Prelude.{◌≡◌, ◌+◌, ◌++◌, ℕ, List, length, take, Option, Result, Ok, Err}
use Rattle.std.specs.Io.KnownBytes.{Consumes, Keeps, IsAtEnd}

-- a read goes on with the bytes at hand, and gives none only at the end; a fault leaves them
abbrev pub Fills : {E : Type 0} → Option (List ℕ) → Option (List ℕ) → List ℕ → List ℕ → Result ℕ E → Type 0
Fills left left' held held' (Ok n) =
    (more : List ℕ) × (held' ≡ held ++ more) × (length more ≡ n) × Consumes left left' more × (n ≡ 0 → IsAtEnd left')
Fills left left' held held' (Err e) = (held' ≡ held) × Keeps left left'

-- the same of a place for bytes of which the first ones are kept
abbrev pub ReadsBehind : {E : Type 0} → Option (List ℕ) → Option (List ℕ) → ℕ → List ℕ → List ℕ → Result ℕ E → Type 0
ReadsBehind left left' end bytes bytes' (Ok n) =
    (more : List ℕ) × (take (end + n) bytes' ≡ take end bytes ++ more) × (length more ≡ n)
    × Consumes left left' more × (n ≡ 0 → IsAtEnd left')
ReadsBehind left left' end bytes bytes' (Err e) = (take end bytes' ≡ take end bytes) × Keeps left left'
