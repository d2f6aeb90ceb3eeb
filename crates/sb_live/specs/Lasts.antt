-- The last row of a key.
use Rattle.std.specs.Prelude.{ℕ, List, fold, Option, Some, None, bytes_eq, if◌then◌else◌}
use Rattle.std.specs.Option.{option_and_then}
use Rattle.sb_emit.specs.records.declared.item.Record.{Record}
use Rattle.sb_emit.specs.records.declared.key.Key.{Key}
use Rattle.sb_emit.specs.records.Keys.{key_text, same_key}
use Rattle.sb_live.specs.declared.change.Change.{Change}
use Rattle.sb_live.specs.declared.change.Change.TheVariants.{Row, End}

-- the last row of the key k after one change more, where it was `found` before
abbrev pub later : Key → Option Record → Change → Option Record
later k found (Row r) = if same_key r.key k then Some r else found
later k found End = found

-- the last row of the key k among the changes
abbrev pub last_of : Key → List Change → Option Record
last_of k changes = fold (later k) None changes

-- the last row of the key k after one row more
abbrev pub nearer : Key → Option Record → Record → Option Record
nearer k found r = if same_key r.key k then Some r else found

-- the last row of the key k among the rows
abbrev pub last_row : Key → List Record → Option Record
last_row k rows = fold (nearer k) None rows

-- the last row of the key, where there is a key
abbrev pub last_if_any : Option Key → List Record → Option Record
last_if_any key rows = option_and_then (λ k. last_row k rows) key

-- the last row whose key has this text, after one row more
abbrev pub nearer_named : List ℕ → Option Record → Record → Option Record
nearer_named text found r = if bytes_eq (key_text r.key) text then Some r else found

-- the last of the rows whose key has this text
abbrev pub last_named : List ℕ → List Record → Option Record
last_named text rows = fold (nearer_named text) None rows
