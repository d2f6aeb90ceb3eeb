-- An output that is handed the rows from a time on.
use Rattle.std.specs.Prelude.{◌≡◌, ℕ, List, [], ◌∷◌, nat_lt, if◌then◌else◌}
use Rattle.sb_pipeline.specs.records.declared.item.Record.{Record}
use Rattle.sb_pipeline.specs.records.Records.{at_least}

-- the output, and the time from which on it is handed rows
pub record HandedOn (R : Type 0) : Type 0 where
  pub low : ℕ
  pub out : R

-- the rows from the first one on that has a time at least low: where rows rise, those with such a time
abbrev pub from_first : ℕ → List Record → List Record
from_first low [] = []
from_first low (r ∷ rows) = if nat_lt r.time low then from_first low rows else r ∷ rows

-- the output is as it is after the rows from the first one on that has a time at least low, and low stays
pub record HandsFromFirst {R : Type 0} (after : R → List Record → R → Type 0)
    (old : HandedOn R) (rows : List Record) (new : HandedOn R) : Type 0 where
  pub low : new.low ≡ old.low
  pub out : after old.out (from_first old.low rows) new.out

-- the output is as it is after those of the rows that have a time at least low, and low stays
pub record Hands {R : Type 0} (after : R → List Record → R → Type 0)
    (old : HandedOn R) (rows : List Record) (new : HandedOn R) : Type 0 where
  pub low : new.low ≡ old.low
  pub out : after old.out (at_least old.low rows) new.out
