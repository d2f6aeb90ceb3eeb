-- Rows of matches of clap.
use Rattle.std.proofs.Common.{◌≡◌, ◌||◌, List, [], ◌∷◌, ◌++◌, Bool, true, false, Option, Some, None, refl, ap, ◌∙◌, append-nil}
use Rattle.std.specs.Prelude.{bytes_eq, find, is_some}
use Rattle.std.specs.Option.{option_or}
use Rattle.std.proofs.lemmas.List.Folds.{find-append}
use Rattle.clap.specs.Walk.{Row, Rule, Text, at_row, has_row, more_values, reading_by, with_default, with_values, without}
use Rattle.clap.specs.declared.parser.matches.ValueSource.TheVariants.{CommandLine, DefaultValue}
use Rattle.clap.specs.declared.parser.matches.ValueSource.{ValueSource}
use Rattle.clap.specs.declared.builder.value_parser.Reading.{Reading}
use Rattle.clap.specs.declared.builder.value_parser.Reading.TheVariants.{AsWritten}

-- what a use of an argument leaves
abbrev pub row_by : ValueSource → Text → Reading → List Text → Row
row_by source id how values = record { id = id; values = values; count = None; source = Some source; reading = how }

abbrev pub row : Text → List Text → Row
row id values = row_by CommandLine id AsWritten values

or_parts : (a b : Bool) → (a || b) ≡ false → (a ≡ false) × (b ≡ false)
or_parts false b e = (refl, e)
or_parts true b e = absurd (cc e)

-- a row of a new id goes to the end
pub at_row_new : (id : Text) (change : Row → List Row) (missing rows : List Row) → has_row id rows ≡ false → at_row id change missing rows ≡ rows ++ missing
at_row_new id change missing [] new = refl
at_row_new id change missing (r ∷ rs) new =
    let parts = or_parts (bytes_eq r.id id) (has_row id rs) new in
    rw parts.0 (ap (λ xs. r ∷ xs) (at_row_new id change missing rs parts.1))

pub used_new : (id : Text) (values : List Text) (rows : List Row) → has_row id rows ≡ false
    → with_values id AsWritten CommandLine values (without id rows) ≡ rows ++ row id values ∷ []
used_new id values rows new =
    let same : without id rows ≡ rows = at_row_new id (λ r. []) [] rows new ∙ append-nil rows in
    ap (with_values id AsWritten CommandLine values) same ∙ at_row_new id (more_values CommandLine values) (row id values ∷ []) rows new

-- the row of an id
abbrev pub found : Text → List Row → Option Row
found id rows = find (λ r. bytes_eq r.id id) rows

or_none : (o : Option Row) → option_or o None ≡ o
or_none None = refl
or_none (Some r) = refl

-- an argument without a default
pub no_default : (a : Rule) (rows : List Row) → a.defaults ≡ [] → with_default rows a ≡ rows
no_default a rows none = by_test (has_row a.id rows) refl
  where
    by_test : (b : Bool) → has_row a.id rows ≡ b → with_default rows a ≡ rows
    by_test true e = rw e refl
    by_test false e = rw (e, none) refl

-- a default of one argument leaves the others
pub default_other : (a : Rule) (value : Text) (id : Text) (rows : List Row) → a.defaults ≡ value ∷ [] → bytes_eq a.id id ≡ false → found id (with_default rows a) ≡ found id rows
default_other a value id rows default other = by_test (has_row a.id rows) refl
  where
    by_test : (b : Bool) → has_row a.id rows ≡ b → found id (with_default rows a) ≡ found id rows
    by_test true e = rw e refl
    by_test false e =
        let added : with_values a.id (reading_by a) DefaultValue (value ∷ []) rows ≡ rows ++ row_by DefaultValue a.id (reading_by a) (value ∷ []) ∷ [] =
        at_row_new a.id (more_values DefaultValue (value ∷ [])) (row_by DefaultValue a.id (reading_by a) (value ∷ []) ∷ []) rows e in
        let one : found id (row_by DefaultValue a.id (reading_by a) (value ∷ []) ∷ []) ≡ None = rw other refl in
        rw (e, default, added) (find-append (λ (r : Row). bytes_eq r.id id) rows (row_by DefaultValue a.id (reading_by a) (value ∷ []) ∷ []) ∙ ap (option_or (found id rows)) one ∙ or_none (found id rows))

-- the default of an argument that has no row
pub default_new : (a : Rule) (value : Text) (rows : List Row) → a.defaults ≡ value ∷ [] → bytes_eq a.id a.id ≡ true → has_row a.id rows ≡ false → found a.id rows ≡ None
    → found a.id (with_default rows a) ≡ Some (row_by DefaultValue a.id (reading_by a) (value ∷ []))
default_new a value rows default same e none =
    let added : with_values a.id (reading_by a) DefaultValue (value ∷ []) rows ≡ rows ++ row_by DefaultValue a.id (reading_by a) (value ∷ []) ∷ [] =
    at_row_new a.id (more_values DefaultValue (value ∷ [])) (row_by DefaultValue a.id (reading_by a) (value ∷ []) ∷ []) rows e in
    rw (e, default, added) (find-append (λ (r : Row). bytes_eq r.id a.id) rows (row_by DefaultValue a.id (reading_by a) (value ∷ []) ∷ []) ∙ rw (none, same) refl)

pub default_given : (a : Rule) (rows : List Row) → has_row a.id rows ≡ true → with_default rows a ≡ rows
default_given a rows e = rw e refl

pub any_found : (id : Text) (rows : List Row) → has_row id rows ≡ is_some (found id rows)
any_found id [] = refl
any_found id (r ∷ rs) = by_test (bytes_eq r.id id) refl (any_found id rs)
  where
    by_test : (b : Bool) → bytes_eq r.id id ≡ b → has_row id rs ≡ is_some (found id rs) → has_row id (r ∷ rs) ≡ is_some (found id (r ∷ rs))
    by_test true e more = rw e refl
    by_test false e more = rw e more
