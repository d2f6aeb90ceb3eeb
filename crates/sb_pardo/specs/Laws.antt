-- The laws of every operation, and the limits of operations as numbers.
use Rattle.std.specs.Prelude.{◌≡◌, ◌≤◌, List, ◌++◌, flat_map, length}
use Rattle.std.specs.List.{AllByRecursion}
use Rattle.sb_record.specs.declared.item.Record.{Record}
use Rattle.sb_record.specs.Keys.{IsKey}
use Rattle.sb_pardo.specs.declared.operation.TheConstants.{MAX_ADDENDS}
use Rattle.sb_pardo.specs.declared.operation.Op.{Op}
use Rattle.sb_pardo.specs.declared.table_file.TheConstants.{MAX_ROWS}
use Rattle.sb_pardo.specs.Outputs.{most_outputs, outputs_of}
use Rattle.sb_pardo.specs.Validity.{IsValid}

-- the most rows of a table, and the most addends of an expansion
pub record Limits : Type 0 where
  pub rows : MAX_ROWS ≡ 100000
  pub addends : MAX_ADDENDS ≡ 8

-- for two lists, one after the other, it gives what it gives for the first, and then what it gives for the second
abbrev pub OutputsOverAJoinedListAreJoined : Type 0
OutputsOverAJoinedListAreJoined =
    (op : Op) (l m : List Record)
    → flat_map (outputs_of op) (l ++ m) ≡ flat_map (outputs_of op) l ++ flat_map (outputs_of op) m

-- what it gives for a record has the record's time
abbrev pub OutputsKeepTheTime : Type 0
OutputsKeepTheTime = (op : Op) (r : Record) → AllByRecursion (λ output. output.time ≡ r.time) (outputs_of op r)

-- what a valid operation gives for a record with a key that it may have, has a key that it may have
abbrev pub OutputsKeepKeysInRange : Type 0
OutputsKeepKeysInRange =
    (op : Op) (r : Record) → IsValid op → IsKey r.key → AllByRecursion (λ output. IsKey output.key) (outputs_of op r)

-- a valid operation gives at most so many records for one, and so many are at most eight
abbrev pub OutputsAreFew : Type 0
OutputsAreFew =
    (op : Op) (r : Record) → IsValid op → (length (outputs_of op r) ≤ most_outputs op) × (most_outputs op ≤ MAX_ADDENDS)
