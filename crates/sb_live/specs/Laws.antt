-- What the laws say.
use Rattle.std.specs.Prelude.{◌≡◌, ◌↔◌, ℕ, List, ◌++◌, Some, All}
use Rattle.sb_emit.specs.records.declared.item.Record.{Record}
use Rattle.sb_emit.specs.records.declared.key.Key.{Key}
use Rattle.sb_emit.specs.records.declared.key.Keys.{Keys}
use Rattle.sb_emit.specs.records.Keys.{IsKeyInRange, key_text}
use Rattle.sb_emit.specs.records.Records.{sorted_records}
use Rattle.sb_live.specs.declared.change.Change.{Change}
use Rattle.sb_live.specs.Changes.{rows_in}
use Rattle.sb_live.specs.Lasts.{last_if_any, last_named, last_of, last_row}
use Rattle.sb_live.specs.Naming.{key_named}
use Rattle.sb_live.specs.Rising.{RiseFrom, next_in}
use Rattle.sb_live.specs.Showings.{ShownRows, ShowsSome}

-- the last row of a key among changes is the last one among their rows
abbrev pub RowsAloneCount : Type 0
RowsAloneCount = (k : Key) (changes : List Change) → last_of k changes ≡ last_row k (rows_in changes)

-- an output that was handed rows that rise, from above the last one before, has counted no fault
abbrev pub RisingRowsAreNeverRefused : Type 0
RisingRowsAreNeverRefused =
    (old new : ShownRows) (rows : List Record) → ShowsSome old rows new
    → RiseFrom (next_in old.out.changes) rows → new.faults ≡ old.faults

-- the first of sorted records rise
abbrev pub FirstSortedRowsRise : Type 0
FirstSortedRowsRise = (records rows rest : List Record) → sorted_records records ≡ rows ++ rest → RiseFrom 0 rows

-- a text names the key of which it is the text, where a line can give that key
abbrev pub KeysAreNamedByTheirText : Type 0
KeysAreNamedByTheirText =
    (keys : Keys) (text : List ℕ) (k : Key)
    → (key_named keys text ≡ Some k) ↔ (IsKeyInRange keys k × (key_text k ≡ text))

-- where lines can give all keys of the rows, the last row with a text as its key is that of the key that the text names
abbrev pub NamedRowsAreThoseOfTheKey : Type 0
NamedRowsAreThoseOfTheKey =
    (keys : Keys) (text : List ℕ) (rows : List Record) → All (λ r. IsKeyInRange keys r.key) rows
    → last_named text rows ≡ last_if_any (key_named keys text) rows
