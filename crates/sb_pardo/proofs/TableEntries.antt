-- What a row gives to a table, and how it changes what the rows after it give.
use Rattle.std.proofs.Common.{◌≡◌, ◌≤◌, ◌<◌, ◌+◌, ◌↔◌, ℕ, List, [], ◌∷◌, length, Bool, true, false, Option, Some, None, IfSome, Ok, Err, Result, refl, sym, ◌∙◌, arith}
use Rattle.std.specs.Prelude.{nat_lt, decimal}
use Rattle.std.specs.Option.{option_map, option_zip}
use Rattle.sb_record.specs.Keys.{key_cmp}
use Rattle.sb_record.specs.declared.key.Key.{Key}
use Rattle.sb_record.specs.declared.key.Keys.{Keys}
use Rattle.std.specs.Result.{IsErrAnd}
use Rattle.std.specs.FinMap.{FinMap, insert}
use Rattle.std.proofs.lemmas.Bool.{false≢true}
use Rattle.std.proofs.lemmas.Bool.Decides.{nat_tests}
use Rattle.csv.specs.Records.{field_at}
use Rattle.sb_record.proofs.Numbers.{whole_number_exact}
use Rattle.sb_record.specs.Reading.{whole_number}
use Rattle.sb_record.specs.declared.key.TheConstants.{MAX_KEY}
use Rattle.sb_pardo.specs.TableFiles.{AnswersTable, Fields, columns_of, entry_of, table_from}
use Rattle.sb_pardo.specs.TableReading.{HasRows, TakesRow, TextReader}
use Rattle.sb_pardo.specs.declared.table_file.TheConstants.{MAX_ROWS}
use Rattle.sb_pardo.specs.declared.table_file.RowFault.{RowFault}
use Rattle.sb_pardo.specs.declared.table_file.RowFault.TheVariants.{TooMany}
use Rattle.sb_pardo.specs.declared.table_file.TableFault.{TableFault}
use Rattle.sb_pardo.specs.declared.table_file.TableStop.{TableStop}
use Rattle.sb_pardo.specs.declared.table_file.TableStop.TheVariants as stop

pub zip_map : {A B : Type 0} (f : A → B) (a b : Option A) → option_map (λ p. (f p.0, f p.1)) (option_zip a b) ≡ option_zip (option_map f a) (option_map f b)
zip_map f None b = refl
zip_map f (Some x) None = refl
zip_map f (Some x) (Some y) = refl

pub two_columns : (fields : Fields) → length fields ≡ 2 → columns_of fields ≡ option_zip (field_at fields 0) (field_at fields 1)
unfolding field_at
two_columns [] h = absurd (omega arith)
two_columns (a ∷ []) h = absurd (omega arith)
two_columns (a ∷ b ∷ []) h = refl
two_columns (a ∷ b ∷ c ∷ rest) h = absurd (omega arith)

-- options with the same value are the same
same_option : {A : Type 0} (a b : Option A) → ((x : A) → a ≡ Some x → b ≡ Some x) → ((x : A) → b ≡ Some x → a ≡ Some x) → a ≡ b
same_option None None to from = refl
same_option None (Some x) to from = from x refl
same_option (Some x) b to from = sym (to x refl)

-- the number that the text spells exactly, up to the greatest key
abbrev IsNumberOf : List ℕ → Option ℕ → Type 0
IsNumberOf field found = (n : ℕ) → (found ≡ Some n) ↔ ((n ≤ MAX_KEY) × (field ≡ decimal n))

pub number_is : (found : Option ℕ) (field : List ℕ) → IsNumberOf field found → found ≡ whole_number MAX_KEY field
number_is found field exact = same_option found (whole_number MAX_KEY field)
    (λ n is. (whole_number_exact MAX_KEY field n (omega arith)).1 ((exact n).0 is))
    (λ n is. (exact n).1 ((whole_number_exact MAX_KEY field n (omega arith)).0 is))

pub number_in_range : (found : Option ℕ) (field : List ℕ) → IsNumberOf field found → IfSome found (λ n. n ≤ MAX_KEY)
number_in_range None field exact = tt
number_in_range (Some n) field exact = ((exact n).0 refl).0

-- a row's entry goes into the table
pub entry_taken : (keys : Keys) (n : ℕ) (seen after : FinMap key_cmp Key) (rows : List Fields) (row : Fields) (rest : List Fields) (entry : Key × Key)
    → n ≤ MAX_ROWS → rows ≡ row ∷ rest → entry_of keys seen row ≡ Ok entry → after ≡ insert seen entry.0 entry.1
    → table_from keys n seen rows ≡ table_from keys (n + 1) after rest
unfolding table_from
entry_taken keys n seen after rows row rest entry few is gives put = let within : nat_lt MAX_ROWS n ≡ false = grind (arith, nat_tests) in rw (is, within, gives, put) refl

-- a row is at fault
pub row_refused : (keys : Keys) (n : ℕ) (seen : FinMap key_cmp Key) (rows : List Fields) (row : Fields) (rest : List Fields) (what : RowFault)
    → n ≤ MAX_ROWS → rows ≡ row ∷ rest → entry_of keys seen row ≡ Err what
    → table_from keys n seen rows ≡ Err (record { row = n; what = what })
unfolding table_from
row_refused keys n seen rows row rest what few is refuses = let within : nat_lt MAX_ROWS n ≡ false = grind (arith, nat_tests) in rw (is, within, refuses) refl

-- no row is left
pub rows_over : (keys : Keys) (n : ℕ) (seen : FinMap key_cmp Key) (rows : List Fields) → rows ≡ [] → table_from keys n seen rows ≡ Ok seen
unfolding table_from
rows_over keys n seen rows is = rw is refl

-- a row is behind the most rows
pub too_many : (keys : Keys) (n : ℕ) (seen : FinMap key_cmp Key) (rows : List Fields) (row : Fields) (rest : List Fields) → MAX_ROWS < n → rows ≡ row ∷ rest
    → table_from keys n seen rows ≡ Err (record { row = n; what = TooMany })
unfolding table_from
too_many keys n seen rows row rest many is = let past : nat_lt MAX_ROWS n ≡ true = grind (arith, nat_tests) in rw (is, past) refl

-- where a row went into the table, the text's table goes on from there
pub goes_on : (keys : Keys) (wanted : Result (FinMap key_cmp Key) TableFault) (n : ℕ) (rows : List Fields) (seen table : FinMap key_cmp Key) (found : Bool) (after : TextReader)
    → found ≡ true → wanted ≡ table_from keys n seen rows → TakesRow keys n rows seen (Ok found) after table
    → (rest : List Fields) × HasRows after rest × (wanted ≡ table_from keys (n + 1) table rest)
goes_on keys wanted n rows seen table true after there is (rest, more, taken) = (rest, more, is ∙ taken)
goes_on keys wanted n rows seen table false after there is taken = absurd (false≢true there)

-- what a row refused, handed on, answers for the text
pub stop_answers : (keys : Keys) (answer : Result (FinMap key_cmp Key) TableStop) (why : TableStop) (wanted : Result (FinMap key_cmp Key) TableFault) (n : ℕ) (rows : List Fields) (seen table : FinMap key_cmp Key) (after : TextReader)
    → IsErrAnd answer (λ e. e ≡ why) → wanted ≡ table_from keys n seen rows → TakesRow keys n rows seen (Err why) after table → AnswersTable answer wanted
stop_answers keys (Ok found) why wanted n rows seen table after handed is refused = absurd handed
stop_answers keys (Err (stop.Fault fault)) why wanted n rows seen table after handed is refused = is ∙ rw (← handed) at refused
stop_answers keys (Err stop.Memory) why wanted n rows seen table after handed is refused = tt
