-- A source whose end is a fault.
use Rattle.std.specs.Prelude.{◌≡◌, ◌≤◌, ℕ, ◌+◌, Bool, true, false, List, Option}
use Rattle.std.specs.Io.KnownBytes.{IsAtEnd}
use Rattle.sb_outside.specs.Sources.{Rose}

-- the source, what it was at first, whether its end was answered as a fault, and whether a read of it has failed
pub record Cut (S : Type 0) : Type 0 where
  pub source : S
  pub begun : S
  pub ended : Bool
  pub has_failed : Bool

-- the faults of the source, and one more once the end was reached
abbrev pub faults_of : Bool → ℕ → ℕ
faults_of false faults = faults
faults_of true faults = faults + 1

-- the end is reached by a call, where it was not and now is
abbrev pub Ends : Bool → Bool → Type 0
Ends before now = (before ≡ false) × (now ≡ true)

-- nothing is left of a source that was said to end, and its count of faults has risen only if a read has failed
pub record IsCutAt (left : Option (List ℕ)) (faults faults' : ℕ) (ended has_failed : Bool) : Type 0 where
  pub at_end : ended ≡ true → IsAtEnd left
  pub never_falls : faults ≤ faults'
  pub unfailed : has_failed ≡ false → faults' ≡ faults
  pub failed : has_failed ≡ true → Rose faults faults'
