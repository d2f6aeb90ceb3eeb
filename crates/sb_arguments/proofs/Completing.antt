-- The rows of options, with those of the options that are not given.
use Rattle.std.proofs.Common.{◌≡◌, ℕ, List, [], ◌∷◌, map, Bool, true, false, Option, Some, None, refl, sym, ap, subst, ◌∙◌, arith}
use Rattle.std.specs.Prelude.{bytes_eq, codes, fold, is_some, option_and_then, slice_get}
use Rattle.clap.specs.Simple.{filled, with_index}
use Rattle.clap.specs.Takes.{is_given}
use Rattle.clap.specs.Words.{new_rule}
use Rattle.clap.specs.Walk.{Row, Rule, Text, first_of, has_row, one_of, reading_by, row_text, with_default}
use Rattle.clap.specs.declared.builder.value_parser.Reading.TheVariants.{AsWritten}
use Rattle.sb_words.specs.declared.setting.Setting.{Setting}
use Rattle.sb_words.specs.declared.setting.Setting.TheVariants.{Workers, Bundle, Pending, Diary, Taps}
use Rattle.sb_words.specs.declared.options.TheConstants.{DEFAULT_WORKERS, DEFAULT_BUNDLE, DEFAULT_PENDING}
use Rattle.sb_arguments.specs.Clapped.{flag, option}
use Rattle.std.specs.List.{AllByRecursion}
use Rattle.std.specs.Option.{option_map_or}
use Rattle.clap.specs.Facts.{explicit_source}
use Rattle.sb_words.specs.Options.{AreInRange, IsSetting, options_of}
use Rattle.sb_arguments.specs.Readings.{AreRead, IsFlag, IsRead}
use Rattle.sb_arguments.proofs.Rows.{any_found, default_given, default_new, default_other, found, no_default, row}
use Rattle.sb_arguments.proofs.Taking.{Arguments, rows_of_words, rules, setting_row}
use Rattle.sb_arguments.proofs.Taking.Arguments.{one, two, three}

abbrev of_flag : Text → Rule
of_flag name = with_index 2 (filled (flag name))

-- the rows with the defaults
abbrev pub complete : Arguments → List Row → List Row
complete arguments base = fold with_default base (rules arguments)

abbrev with_flags : List Row → List Row
with_flags base = with_default (with_default base (of_flag (codes "diary"))) (of_flag (codes "taps"))

abbrev of_option : Text → Rule
of_option name = with_index 2 (filled (option name))

-- the rows with the defaults of the options that have a value, of which there are none
abbrev with_options : List Row → List Row
with_options base = with_default (with_default (with_default base (of_option (codes "workers"))) (of_option (codes "bundle"))) (of_option (codes "pending"))

options_add_none : (base : List Row) → with_options base ≡ base
options_add_none base =
    no_default (of_option (codes "pending")) (with_default (with_default base (of_option (codes "workers"))) (of_option (codes "bundle"))) refl
    ∙ no_default (of_option (codes "bundle")) (with_default base (of_option (codes "workers"))) refl
    ∙ no_default (of_option (codes "workers")) base refl

abbrev of_argument : ℕ → Text → Rule
of_argument place id = with_index place (filled (record (new_rule id) { required = true }))

abbrev first : Rule
first = of_argument 1 (codes "argument")

abbrev second : Rule
second = of_argument 2 (codes "second")

abbrev third : Rule
third = of_argument 3 (codes "third")

complete_is : (arguments : Arguments) (base : List Row) → complete arguments base ≡ with_flags base
complete_is (one a) base = ap with_flags (options_add_none (with_default base first) ∙ no_default first base refl)
complete_is (two a b) base = ap with_flags
    (options_add_none (with_default (with_default base first) second) ∙ no_default second (with_default base first) refl ∙ no_default first base refl)
complete_is (three a b d) base = ap with_flags
    (options_add_none (with_default (with_default (with_default base first) second) third)
    ∙ no_default third (with_default (with_default base first) second) refl
    ∙ no_default second (with_default base first) refl ∙ no_default first base refl)

-- an argument that is no flag keeps its row
kept : (arguments : Arguments) (id : Text) → bytes_eq (codes "diary") id ≡ false → bytes_eq (codes "taps") id ≡ false
    → (base : List Row) → found id (complete arguments base) ≡ found id base
kept arguments id diary taps base =
    ap (found id) (complete_is arguments base)
    ∙ default_other (of_flag (codes "taps")) (codes "false") id (with_default base (of_flag (codes "diary"))) refl taps
    ∙ default_other (of_flag (codes "diary")) (codes "false") id base refl diary

-- the row of a flag
abbrev HasFlag : Text → Bool → Option Row → Type 0
HasFlag id true found = found ≡ Some (row id (codes "true" ∷ []))
HasFlag id false found = found ≡ None

abbrev text_in : Option Row → Option Text
text_in = option_and_then row_text

-- a flag, with its default
flag_read : (a : Rule) (b : Bool) (rows : List Row) → a.defaults ≡ codes "false" ∷ [] → bytes_eq a.id a.id ≡ true → reading_by a ≡ AsWritten
    → HasFlag a.id b (found a.id rows) → IsFlag b (text_in (found a.id (with_default rows a)))
flag_read a true rows default same how has =
    let given : has_row a.id rows ≡ true = any_found a.id rows ∙ ap is_some has in
    ap text_in (ap (found a.id) (default_given a rows given) ∙ has)
flag_read a false rows default same how has =
    let new : has_row a.id rows ≡ false = any_found a.id rows ∙ ap is_some has in
    ap text_in (default_new a (codes "false") rows default same new has) ∙ rw how refl

read_workers : (settings : List Setting) → IsRead (options_of settings).workers DEFAULT_WORKERS (first_of (codes "workers") (map setting_row settings))
read_workers [] = refl
read_workers (Workers n ∷ settings) = refl
read_workers (Bundle n ∷ settings) = read_workers settings
read_workers (Pending n ∷ settings) = read_workers settings
read_workers (Diary ∷ settings) = read_workers settings
read_workers (Taps ∷ settings) = read_workers settings

read_bundle : (settings : List Setting) → IsRead (options_of settings).bundle DEFAULT_BUNDLE (first_of (codes "bundle") (map setting_row settings))
read_bundle [] = refl
read_bundle (Workers n ∷ settings) = read_bundle settings
read_bundle (Bundle n ∷ settings) = refl
read_bundle (Pending n ∷ settings) = read_bundle settings
read_bundle (Diary ∷ settings) = read_bundle settings
read_bundle (Taps ∷ settings) = read_bundle settings

read_pending : (settings : List Setting) → IsRead (options_of settings).pending DEFAULT_PENDING (first_of (codes "pending") (map setting_row settings))
read_pending [] = refl
read_pending (Workers n ∷ settings) = read_pending settings
read_pending (Bundle n ∷ settings) = read_pending settings
read_pending (Pending n ∷ settings) = refl
read_pending (Diary ∷ settings) = read_pending settings
read_pending (Taps ∷ settings) = read_pending settings

has_diary : (settings : List Setting) → HasFlag (codes "diary") (options_of settings).diary (found (codes "diary") (map setting_row settings))
has_diary [] = refl
has_diary (Workers n ∷ settings) = has_diary settings
has_diary (Bundle n ∷ settings) = has_diary settings
has_diary (Pending n ∷ settings) = has_diary settings
has_diary (Diary ∷ settings) = refl
has_diary (Taps ∷ settings) = has_diary settings

has_taps : (settings : List Setting) → HasFlag (codes "taps") (options_of settings).taps (found (codes "taps") (map setting_row settings))
has_taps [] = refl
has_taps (Workers n ∷ settings) = has_taps settings
has_taps (Bundle n ∷ settings) = has_taps settings
has_taps (Pending n ∷ settings) = has_taps settings
has_taps (Diary ∷ settings) = has_taps settings
has_taps (Taps ∷ settings) = refl

abbrev first_in : Option Row → Option Text
first_in = option_and_then (λ r. slice_get r.values 0)

diary_is : (arguments : Arguments) (base : List Row) (b : Bool) → HasFlag (codes "diary") b (found (codes "diary") base)
    → IsFlag b (one_of (codes "diary") (complete arguments base))
diary_is arguments base b has =
    let a = of_flag (codes "diary") in
    let read : IsFlag b (text_in (found (codes "diary") (with_default base a))) = flag_read a b base refl refl refl has in
    let e : found (codes "diary") (complete arguments base) ≡ found (codes "diary") (with_default base a) =
    ap (found (codes "diary")) (complete_is arguments base) ∙ default_other (of_flag (codes "taps")) (codes "false") (codes "diary") (with_default base a) refl refl in
    subst (λ o. IsFlag b (text_in o)) (sym e) read

taps_is : (arguments : Arguments) (base : List Row) (b : Bool) → HasFlag (codes "taps") b (found (codes "taps") base)
    → IsFlag b (one_of (codes "taps") (complete arguments base))
taps_is arguments base b has =
    let d = of_flag (codes "diary") in
    let before : found (codes "taps") (with_default base d) ≡ found (codes "taps") base = default_other d (codes "false") (codes "taps") base refl refl in
    let read : IsFlag b (text_in (found (codes "taps") (with_flags base))) =
    flag_read (of_flag (codes "taps")) b (with_default base d) refl refl refl (subst (HasFlag (codes "taps") b) (sym before) has) in
    subst (λ o. IsFlag b (text_in o)) (sym (ap (found (codes "taps")) (complete_is arguments base))) read

-- the rows of arguments come before those of options, and have none of their ids
record AreApart (arguments : Arguments) (settings : List Setting) : Type 0 where
  pub workers : found (codes "workers") (rows_of_words arguments settings) ≡ found (codes "workers") (map setting_row settings)
  pub bundle : found (codes "bundle") (rows_of_words arguments settings) ≡ found (codes "bundle") (map setting_row settings)
  pub pending : found (codes "pending") (rows_of_words arguments settings) ≡ found (codes "pending") (map setting_row settings)
  pub diary : found (codes "diary") (rows_of_words arguments settings) ≡ found (codes "diary") (map setting_row settings)
  pub taps : found (codes "taps") (rows_of_words arguments settings) ≡ found (codes "taps") (map setting_row settings)

apart : (arguments : Arguments) (settings : List Setting) → AreApart arguments settings
apart (one a) settings = record { workers = refl; bundle = refl; pending = refl; diary = refl; taps = refl }
apart (two a b) settings = record { workers = refl; bundle = refl; pending = refl; diary = refl; taps = refl }
apart (three a b d) settings = record { workers = refl; bundle = refl; pending = refl; diary = refl; taps = refl }

-- the rows of arguments and options say the options
pub are_read : (arguments : Arguments) (settings : List Setting) → AreInRange (options_of settings)
    → AreRead (options_of settings) (complete arguments (rows_of_words arguments settings))
are_read arguments settings range =
    let base = rows_of_words arguments settings in
    let options = options_of settings in
    let own = apart arguments settings in
    record {
      in_range = range;
      workers = subst (λ o. IsRead options.workers DEFAULT_WORKERS (first_in o)) (sym (kept arguments (codes "workers") refl refl base ∙ own.workers)) (read_workers settings);
      bundle = subst (λ o. IsRead options.bundle DEFAULT_BUNDLE (first_in o)) (sym (kept arguments (codes "bundle") refl refl base ∙ own.bundle)) (read_bundle settings);
      pending = subst (λ o. IsRead options.pending DEFAULT_PENDING (first_in o)) (sym (kept arguments (codes "pending") refl refl base ∙ own.pending)) (read_pending settings);
      diary = diary_is arguments base options.diary (subst (HasFlag (codes "diary") options.diary) (sym own.diary) (has_diary settings));
      taps = taps_is arguments base options.taps (subst (HasFlag (codes "taps") options.taps) (sym own.taps) (has_taps settings));
    }

-- and they have the arguments
abbrev pub HasArguments : Arguments → List Row → Type 0
HasArguments (one argument) rows = first_of (codes "argument") rows ≡ Some argument
HasArguments (two argument second) rows = (first_of (codes "argument") rows ≡ Some argument) × (first_of (codes "second") rows ≡ Some second)
HasArguments (three argument second third) rows =
    (first_of (codes "argument") rows ≡ Some argument) × (first_of (codes "second") rows ≡ Some second) × (first_of (codes "third") rows ≡ Some third)

pub arguments_read : (arguments : Arguments) (settings : List Setting) → HasArguments arguments (complete arguments (rows_of_words arguments settings))
arguments_read (one argument) settings = ap first_in (kept (one argument) (codes "argument") refl refl (rows_of_words (one argument) settings))
arguments_read (two argument second) settings =
    let arguments = two argument second in
    let base = rows_of_words arguments settings in
    (ap first_in (kept arguments (codes "argument") refl refl base), ap first_in (kept arguments (codes "second") refl refl base))
arguments_read (three argument second third) settings =
    let arguments = three argument second third in
    let base = rows_of_words arguments settings in (
      ap first_in (kept arguments (codes "argument") refl refl base),
      ap first_in (kept arguments (codes "second") refl refl base),
      ap first_in (kept arguments (codes "third") refl refl base),
    )

-- an argument that has a row of the command line is given
given_by : (id : Text) (values : List Text) (rows : List Row) → found id rows ≡ Some (row id values) → is_given id rows ≡ true
given_by id values rows is = ap (λ (o : Option Row). option_map_or (λ r. explicit_source r.source) o false) is

-- the arguments are given
pub argument_given : (argument : Text) (settings : List Setting)
    → is_given (codes "argument") (complete (one argument) (rows_of_words (one argument) settings)) ≡ true
argument_given argument settings =
    let base = rows_of_words (one argument) settings in
    given_by (codes "argument") (argument ∷ []) (complete (one argument) base) (kept (one argument) (codes "argument") refl refl base)

pub both_given : (argument second : Text) (settings : List Setting)
    → let rows = complete (two argument second) (rows_of_words (two argument second) settings) in
    (is_given (codes "argument") rows ≡ true) × (is_given (codes "second") rows ≡ true)
both_given argument second settings =
    let base = rows_of_words (two argument second) settings in
    let rows = complete (two argument second) base in (
      given_by (codes "argument") (argument ∷ []) rows (kept (two argument second) (codes "argument") refl refl base),
      given_by (codes "second") (second ∷ []) rows (kept (two argument second) (codes "second") refl refl base),
    )

pub all_given : (argument second third : Text) (settings : List Setting)
    → let rows = complete (three argument second third) (rows_of_words (three argument second third) settings) in
    (is_given (codes "argument") rows ≡ true) × (is_given (codes "second") rows ≡ true) × (is_given (codes "third") rows ≡ true)
all_given argument second third settings =
    let arguments = three argument second third in
    let base = rows_of_words arguments settings in
    let rows = complete arguments base in (
      given_by (codes "argument") (argument ∷ []) rows (kept arguments (codes "argument") refl refl base),
      given_by (codes "second") (second ∷ []) rows (kept arguments (codes "second") refl refl base),
      given_by (codes "third") (third ∷ []) rows (kept arguments (codes "third") refl refl base),
    )

-- options in their ranges
pub in_range : (settings : List Setting) → AllByRecursion IsSetting settings → AreInRange (options_of settings)
in_range [] range = record { some_worker = omega arith; workers = omega arith; some_record = omega arith; bundle = omega arith; some_bundle = omega arith; pending = omega arith }
in_range (Workers n ∷ settings) range = let r = in_range settings range.1 in record { some_worker = range.0.0; workers = range.0.1; some_record = r.some_record; bundle = r.bundle; some_bundle = r.some_bundle; pending = r.pending }
in_range (Bundle n ∷ settings) range = let r = in_range settings range.1 in record { some_worker = r.some_worker; workers = r.workers; some_record = range.0.0; bundle = range.0.1; some_bundle = r.some_bundle; pending = r.pending }
in_range (Pending n ∷ settings) range = let r = in_range settings range.1 in record { some_worker = r.some_worker; workers = r.workers; some_record = r.some_record; bundle = r.bundle; some_bundle = range.0.0; pending = range.0.1 }
in_range (Diary ∷ settings) range = let r = in_range settings range.1 in record { some_worker = r.some_worker; workers = r.workers; some_record = r.some_record; bundle = r.bundle; some_bundle = r.some_bundle; pending = r.pending }
in_range (Taps ∷ settings) range = let r = in_range settings range.1 in record { some_worker = r.some_worker; workers = r.workers; some_record = r.some_record; bundle = r.bundle; some_bundle = r.some_bundle; pending = r.pending }
