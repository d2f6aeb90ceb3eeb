-- The table that a text of comma-separated rows is.
use Rattle.std.specs.Prelude.{◌≡◌, ℕ, ◌+◌, nat_lt, if◌then◌else◌, List, [], ◌∷◌, Option, Some, None, is_some, Result, Ok, Err, ⊤}
use Rattle.std.specs.Option.{option_map}
use Rattle.std.specs.FinMap.{FinMap, empty, get, insert}
use Rattle.csv.specs.Reading.{default_config, records, strip_bom}
use Rattle.sb_record.specs.Reading.{whole_number}
use Rattle.sb_record.specs.Keys.{key_cmp}
use Rattle.sb_record.specs.Words.{is_word}
use Rattle.sb_record.specs.declared.key.TheConstants.{MAX_KEY}
use Rattle.sb_record.specs.declared.key.Keys.{Keys}
use Rattle.sb_record.specs.declared.key.Keys.TheVariants.{Numbers, Words}
use Rattle.sb_record.specs.declared.key.Key.{Key}
use Rattle.sb_record.specs.declared.key.Key.TheVariants.{Number, Word}
use Rattle.sb_pardo.specs.declared.table_file.TheConstants.{MAX_ROWS}
use Rattle.sb_pardo.specs.declared.table_file.RowFault.{RowFault}
use Rattle.sb_pardo.specs.declared.table_file.RowFault.TheVariants as row_fault
use Rattle.sb_pardo.specs.declared.table_file.TableFault.{TableFault}
use Rattle.sb_pardo.specs.declared.table_file.TableStop.{TableStop}
use Rattle.sb_pardo.specs.declared.table_file.TableStop.TheVariants as stop

-- a row: the bytes of each of its fields
abbrev pub Fields : Type 0
Fields = List (List ℕ)

-- the rows of a text: as `csv` reads it by default, without a head line, and with rows of any width
unfoldable pub rows_of : List ℕ → List Fields
rows_of bytes = records default_config (strip_bom bytes)

-- the key that a field spells: a number in decimal digits, or a word
abbrev pub key_of : Keys → List ℕ → Option Key
key_of Numbers field = option_map Number (whole_number MAX_KEY field)
key_of Words field = if is_word field then Some (Word field) else None

-- the next test, where the one before it passed
abbrev pub then_test : {A B E : Type 0} → Result A E → (A → Result B E) → Result B E
then_test (Ok x) f = f x
then_test (Err e) f = Err e

-- the value, or this fault where there is none
abbrev pub or_fault : {A E : Type 0} → E → Option A → Result A E
or_fault e None = Err e
or_fault e (Some x) = Ok x

-- the two fields of a row of two
abbrev pub columns_of : Fields → Option (List ℕ × List ℕ)
columns_of (a ∷ b ∷ []) = Some (a, b)
columns_of fields = None

-- the key and the image of a row, with the keys of the rows before it in `seen`; or its first fault
unfoldable pub entry_of : Keys → FinMap key_cmp Key → Fields → Result (Key × Key) RowFault
entry_of keys seen fields =
    then_test (or_fault row_fault.Width (columns_of fields)) (λ columns.
    then_test (or_fault row_fault.Key (key_of keys columns.0)) (λ key.
    then_test (or_fault row_fault.Image (key_of keys columns.1)) (λ image.
    if is_some (get seen key) then Err row_fault.Repeated else Ok (key, image))))

-- the fault is that of row n
abbrev pub at_row : {A B : Type 0} → ℕ → Result A RowFault → (A → Result B TableFault) → Result B TableFault
at_row n (Ok x) f = f x
at_row n (Err what) f = Err (record { row = n; what = what })

-- the table of the rows from row n on, after those in `seen`; or the first fault of the first faulty row
unfoldable pub table_from : Keys → ℕ → FinMap key_cmp Key → List Fields → Result (FinMap key_cmp Key) TableFault
table_from keys n seen [] = Ok seen
table_from keys n seen (row ∷ rows) =
    at_row n (if nat_lt MAX_ROWS n then Err row_fault.TooMany else entry_of keys seen row)
    (λ entry. table_from keys (n + 1) (insert seen entry.0 entry.1) rows)

-- the table of a text, where keys are numbers or words; or its first fault
abbrev pub table_of : Keys → List ℕ → Result (FinMap key_cmp Key) TableFault
table_of keys bytes = table_from keys 1 empty (rows_of bytes)

-- the answer is that table, or that fault; nothing is said where memory was wanting
abbrev pub AnswersTable : Result (FinMap key_cmp Key) TableStop → Result (FinMap key_cmp Key) TableFault → Type 0
AnswersTable (Ok table) wanted = wanted ≡ Ok table
AnswersTable (Err (stop.Fault fault)) wanted = wanted ≡ Err fault
AnswersTable (Err stop.Memory) wanted = ⊤
