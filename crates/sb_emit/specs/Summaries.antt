-- The numbers of rows that a summary keeps.
use Rattle.std.specs.Prelude.{◌≡◌, ℕ, ◌+◌, ◌*◌, ◌%◌, ◌^◌, false, List, ◌++◌, length, sum_by}
use Rattle.std.specs.Int.{cast_unsigned, w64}
use Rattle.sb_record.specs.declared.item.Record.{Record}
use Rattle.sb_outside.specs.Sinks.{SinkState}

-- the numbers of some rows, each modulo 2 ^ 64
pub record Sums : Type 0 where
  pub count : ℕ
  pub sum : ℕ
  pub check : ℕ

-- a row's value modulo 2 ^ 64
abbrev pub value_of : Record → ℕ
value_of row = cast_unsigned w64 row.value

-- the end of a row's window times its value
abbrev pub check_of : Record → ℕ
check_of row = (row.time + 1) * value_of row

-- the numbers have grown by those of the rows, modulo 2 ^ 64
pub record Adds (old : Sums) (rows : List Record) (new : Sums) : Type 0 where
  pub count : new.count % 2 ^ 64 ≡ (old.count + length rows) % 2 ^ 64
  pub sum : new.sum % 2 ^ 64 ≡ (old.sum + sum_by value_of rows) % 2 ^ 64
  pub check : new.check % 2 ^ 64 ≡ (old.check + sum_by check_of rows) % 2 ^ 64

-- the numbers have grown by those of the first rows
pub record AddsPrefix (old : Sums) (rows : List Record) (new : Sums) : Type 0 where
  pub prefix : List Record
  pub rest : List Record
  pub whole : rows ≡ prefix ++ rest
  pub adds : Adds old prefix new

-- nothing was ever refused
abbrev pub no_faults : SinkState
no_faults = record { faults = 0; shortages = 0; refuses = false }
