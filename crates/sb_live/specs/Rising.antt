-- Rows whose times never fall.
use Rattle.std.specs.Prelude.{ℕ, ◌+◌, ◌≤◌, ◌<◌, List, [], ◌∷◌, fold, Option, Some, None}
use Rattle.sb_emit.specs.records.declared.item.Record.{Record}
use Rattle.sb_live.specs.declared.change.Change.{Change}
use Rattle.sb_live.specs.Changes.{rows_in}

-- no time is below the one before it, nor the first below the floor
abbrev pub RiseFrom : ℕ → List Record → Type 0
RiseFrom floor [] = Unit {0}
RiseFrom floor (r ∷ rows) = (floor ≤ r.time) × RiseFrom r.time rows

-- the time after this one, or 0 where there is none
abbrev pub next_after : Option ℕ → ℕ
next_after None = 0
next_after (Some time) = time + 1

-- the first of the rows is above this time, where there are both
abbrev pub BeginAbove : Option ℕ → List Record → Type 0
BeginAbove None rows = Unit {0}
BeginAbove (Some time) [] = Unit {0}
BeginAbove (Some time) (r ∷ rows) = time < r.time

-- the time after that of the last of the rows, or the floor where there is none
abbrev pub next_time : ℕ → List Record → ℕ
next_time floor rows = fold (λ _ (r : Record). r.time + 1) floor rows

-- the time after that of the last row that was shown, or 0 where none was: the rows of the next call rise from it
abbrev pub next_in : List Change → ℕ
next_in changes = next_time 0 (rows_in changes)

-- the row that was found is still there, or one that is not earlier
abbrev pub IsNoEarlier : Option Record → Option Record → Type 0
IsNoEarlier None now = Unit {0}
IsNoEarlier (Some r) None = ⊥
IsNoEarlier (Some r) (Some s) = r.time ≤ s.time
