-- What a search for the next line gives.
use Rattle.std.specs.Prelude.{◌≡◌, ◌≤◌, ℕ, true, false, List, [], ◌∷◌, ◌++◌, length, take, drop, Option, ⊤}
use Rattle.std.specs.Io.KnownBytes.{Consumes, IsAtEnd}
use Rattle.sb_outside.specs.Sources.{Rose}
use Rattle.sb_outside.specs.Lines.{lines, longest_line}
use Rattle.sb_outside.specs.Readings.{IsTooLong}
use Rattle.sb_outside.specs.Looks.{IsFirstLine}
use Rattle.sb_outside.specs.declared.search.Found.{Found}
use Rattle.sb_outside.specs.declared.search.Found.TheVariants as found

-- what is found in the bytes, where the source has these left and the count of faults was and is so
abbrev pub Says : List ℕ → Option (List ℕ) → ℕ → ℕ → Found → Type 0
Says bytes left before now (found.Line len used) =
    IsFirstLine (take len bytes) (drop used bytes) bytes × (len ≤ longest_line) × (len ≤ used) × (used ≤ length bytes)
    × (now ≡ before)
Says bytes left before now (found.Last len) =
    (lines true bytes ≡ take len bytes ∷ []) × (len ≤ longest_line) × (len ≤ length bytes) × IsAtEnd left
    × (now ≡ before)
Says bytes left before now found.End = (lines true bytes ≡ []) × IsAtEnd left × (now ≡ before)
Says bytes left before now found.TooLong = IsTooLong bytes × (now ≡ before)
Says bytes left before now found.Fault = (lines false bytes ≡ []) × Rose before now

-- the source gave the bytes behind those that were at hand
pub record Gives (left left' : Option (List ℕ)) (held bytes : List ℕ) : Type 0 where
  pub more : List ℕ
  pub given : Consumes left left' more
  pub all : bytes ≡ held ++ more

-- what is found at the end of the input
abbrev pub IsLast : List ℕ → Found → Type 0
IsLast bytes (found.Line len used) = ⊥
IsLast bytes (found.Last len) = (lines true bytes ≡ take len bytes ∷ []) × (len ≤ longest_line) × (len ≤ length bytes)
IsLast bytes found.End = lines true bytes ≡ []
IsLast bytes found.TooLong = ⊥
IsLast bytes found.Fault = ⊥

-- the input was found to be at its end
abbrev pub MeetsEnd : Found → Type 0
MeetsEnd (found.Line len used) = ⊥
MeetsEnd (found.Last len) = ⊤
MeetsEnd found.End = ⊤
MeetsEnd found.TooLong = ⊥
MeetsEnd found.Fault = ⊥
