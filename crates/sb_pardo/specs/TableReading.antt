-- What it is to read the rows of a table one after another.
use Rattle.std.specs.Prelude.{◌≡◌, ℕ, ◌+◌, List, [], ◌∷◌, Option, Some, Bool, true, false, Result, Ok, Err, ⊤}
use Rattle.std.specs.Borrow.{Bor}
use Rattle.std.specs.FinMap.{FinMap}
use Rattle.csv.specs.Reading.{AreRecords, Ready, default_config, reader_config, reader_state, reader_trim, source_of}
use Rattle.csv.specs.declared.reader.Reader.{Reader}
use Rattle.csv.specs.declared.reader.Trim.TheVariants as trim
use Rattle.sb_record.specs.Keys.{key_cmp}
use Rattle.sb_record.specs.declared.key.Key.{Key}
use Rattle.sb_record.specs.declared.key.Keys.{Keys}
use Rattle.sb_pardo.specs.TableFiles.{Fields, table_from}
use Rattle.sb_pardo.specs.declared.table_file.TableStop.{TableStop}
use Rattle.sb_pardo.specs.declared.table_file.TableStop.TheVariants as stop

-- a reader of a text in memory
abbrev pub TextReader : Type 0
TextReader = Reader (Bor (List ℕ))

-- the bytes that it has not read yet
abbrev pub unread : TextReader → Option (List ℕ)
unread reader = source_of (λ text. Some text.now) reader

-- the reader has these rows still to give
pub record HasRows (reader : TextReader) (rows : List Fields) : Type 0 where
  pub trims : reader_trim reader ≡ trim.None
  pub ready : Ready reader
  pub config : reader_config reader ≡ default_config
  pub left : List ℕ
  pub source : unread reader ≡ Some left
  pub given : AreRecords default_config (reader_state reader) left rows

-- of these rows the first was found, with these fields, or there was none
abbrev pub FindsRow : List Fields → Bool → Fields → TextReader → Type 0
FindsRow rows true fields after = (rest : List Fields) × (rows ≡ fields ∷ rest) × HasRows after rest
FindsRow rows false fields after = rows ≡ []

-- of these rows, from row n on, the first went into the table, or there was none, or it is at fault
abbrev pub TakesRow : Keys → ℕ → List Fields → FinMap key_cmp Key → Result Bool TableStop
    → TextReader → FinMap key_cmp Key → Type 0
TakesRow keys n rows seen (Ok true) after table =
    (rest : List Fields) × HasRows after rest × (table_from keys n seen rows ≡ table_from keys (n + 1) table rest)
TakesRow keys n rows seen (Ok false) after table = table_from keys n seen rows ≡ Ok table
TakesRow keys n rows seen (Err (stop.Fault fault)) after table = table_from keys n seen rows ≡ Err fault
TakesRow keys n rows seen (Err stop.Memory) after table = ⊤
