-- A source that never says that the input has ended.
use Rattle.std.specs.Prelude.{◌≡◌, ℕ, Bool, false, List, [], ◌∷◌, Option}
use Rattle.std.specs.Io.KnownBytes.{append_known}
use Rattle.sb_checkpoint.specs.Cut.{IsCutAt}

-- a source, what it was at first, whether its end was met, whether a read of it has failed, and how many reads came
-- behind the end
pub record Part (S : Type 0) : Type 0 where
  pub source : S
  pub begun : S
  pub ended : Bool
  pub has_failed : Bool
  pub again : ℕ

-- nothing is left of a source whose end was met, its count of faults has risen only if a read has failed, and reads
-- came behind the end only if it was met
pub record IsPartAt (left : Option (List ℕ)) (faults faults' : ℕ) (ended has_failed : Bool) (again : ℕ) : Type 0 where
  pub cut : IsCutAt left faults faults' ended has_failed
  pub none_again : ended ≡ false → again ≡ 0

-- the bytes of a part of an input: behind them stands one that is never given
abbrev pub open_end : Option (List ℕ) → Option (List ℕ)
open_end left = append_known left (0 ∷ [])
