-- What a table says of its transform may be in a plan.
use Rattle.std.proofs.Common.{◌≡◌, ◌≤◌, ◌+◌, ℕ, ℤ, pos, negsuc, Bool, true, false, cond, List, [], ◌∷◌, length, Option, Some, None, IfOk, Result, Ok, Err, refl, subst, arith, rules}
use Rattle.std.specs.Prelude.{is_some, ◌&&◌, ◌||◌, ◌==◌, ◌%◌, ◌/◌, not, nat_lt, nat_le}
use Rattle.std.specs.FinMap.{FinMap, empty, get, insert}
use Rattle.std.proofs.lemmas.Bool.{and_parts, leb-true}
use Rattle.std.proofs.lemmas.Option.{cond_some}
use Rattle.std.proofs.NetLemmas.Options.{map_some}
use Rattle.toml.specs.Data.{Members, get_member, as_integer, as_str}
use Rattle.sb_pipeline.specs.records.declared.key.TheConstants.{MAX_KEY}
use Rattle.sb_pipeline.specs.records.declared.key.Key.{Key}
use Rattle.sb_pipeline.specs.records.declared.key.Key.TheVariants.{Number, Word}
use Rattle.sb_pipeline.specs.records.declared.key.Keys.{Keys}
use Rattle.sb_pipeline.specs.records.declared.key.Keys.TheVariants.{Numbers, Words}
use Rattle.sb_pipeline.specs.records.Keys.{IsKey, key_cmp}
use Rattle.sb_pipeline.specs.records.Reading.{whole_number}
use Rattle.sb_pipeline.specs.records.Words.{is_word}
use Rattle.sb_pipeline.proofs.records.Numbers.{whole_number_exact}
use Rattle.sb_outside.specs.Folders.{Files}
use Rattle.sb_pipeline.specs.window.declared.windows.TheConstants.{MAX_SIZE, MAX_WINDOWS_OF_A_TIME}
use Rattle.sb_pipeline.specs.window.Spacing.{Spacing, AreWindows, fixed_windows}
use Rattle.sb_pipeline.specs.window.Windows.{spacing_of}
use Rattle.sb_pipeline.specs.window.declared.windows.BadWindow.TheVariants as bad
use Rattle.sb_pipeline.proofs.pardo.Tables.{no_images, images_with}
use Rattle.sb_pipeline.specs.windowed.declared.aggregate.TheConstants.{MAX_TOP}
use Rattle.sb_plan.specs.declared.TheConstants.{MAX_TABLE_BYTES}
use Rattle.std.proofs.lemmas.Bool.Decides.{nat_tests}
use Rattle.sb_pipeline.specs.pardo.declared.operation.TheConstants.{MAX_ADDENDS}
use Rattle.sb_pipeline.specs.pardo.declared.operation.Op.TheVariants.{Filter, Map, Expand, Lookup}
use Rattle.sb_pipeline.specs.pardo.declared.operation.Change.{Change}
use Rattle.sb_pipeline.specs.pardo.declared.operation.Change.TheVariants as change
use Rattle.sb_pipeline.specs.pardo.TableFiles.{then_test, or_fault, table_of, table_from, entry_of, rows_of, at_row, columns_of, key_of, Fields}
use Rattle.sb_pipeline.specs.pardo.declared.table_file.TheConstants.{MAX_ROWS}
use Rattle.sb_pipeline.specs.pardo.declared.table_file.TableFault.{TableFault}
use Rattle.sb_pipeline.specs.pardo.declared.table_file.RowFault.{RowFault}
use Rattle.sb_pipeline.specs.pardo.declared.table_file.RowFault.TheVariants as row_fault
use Rattle.sb_pipeline.specs.pardo.Validity.{IsValidChange}
use Rattle.sb_pipeline.specs.pardo.Tables.{HasKeyImages}
use Rattle.sb_pipeline.specs.windowed.Aggregates as aggregate
use Rattle.sb_pipeline.specs.windowed.declared.aggregate.Agg.{Agg}
use Rattle.sb_pipeline.specs.windowed.declared.aggregate.Agg.TheVariants.{Top}
use Rattle.sb_pipeline.specs.declared.transform.Kind.{Kind}
use Rattle.sb_pipeline.specs.windowed.declared.session.TheConstants.{MAX_GAP}
use Rattle.sb_pipeline.specs.windowed.Aggregates.{GivesOne}
use Rattle.sb_pipeline.specs.declared.transform.Kind.TheVariants.{Do, Group, Session, Join}
use Rattle.sb_plan.specs.declared.fault.PlanCause.TheVariants.{OutOfRange, TableRow, TableTooLong}
use Rattle.sb_plan.specs.declared.fault.PlanKey.{PlanKey}
use Rattle.sb_plan.specs.declared.fault.PlanKey.TheVariants as key
use Rattle.sb_plan.specs.declared.words.KindName.{KindName}
use Rattle.sb_plan.specs.declared.words.KindName.TheVariants as kind
use Rattle.sb_plan.specs.declared.words.ChangeName.{ChangeName}
use Rattle.sb_plan.specs.declared.words.ChangeName.TheVariants as change_name
use Rattle.sb_plan.specs.Failures.{Failure, by_text, in_file, in_place_of}
use Rattle.sb_plan.specs.Keys.{key_text, typed_at, word_at, number_at, number_between}
use Rattle.sb_plan.specs.Words.{change_by, change_named, combine_named, aggregate_named, field_named, test_named, IsNamed}
use Rattle.sb_plan.specs.Kinds.{file_name, as_integers, filter_at, map_at, expand_at, windows_every, windows_at, group_at, top_at, session_at, join_at, lookup_in, lookup_at, transform_at}
use Rattle.sb_plan.specs.declared.stop.Stop.{Stop}
use Rattle.sb_plan.specs.Answers.{AnswersTests}
use Rattle.sb_plan.specs.Soundness.{IsOfKind}
use Rattle.sb_plan.proofs.Naming.{gives-one}
use Rattle.sb_plan.proofs.Passed.{found, of_text, passed, passed_if, passed_text, passed_unless, some-is}

-- a file that gives anything is there
is_there : {A E : Type 0} (read : List ℕ → Result A (Failure E)) (file : Option (List ℕ)) (a : A) → in_file read file ≡ Ok a → (bytes : List ℕ) × (read bytes ≡ Ok a)
is_there read (Some bytes) a h = (bytes, h)
is_there read None a h = cc

-- a number is in its range
pub between : (low high : ℕ) (z : ℤ) (n : ℕ) → number_between low high z ≡ Some n → (low ≤ n) × (n ≤ high)
between low high (pos x) n h =
    let fits = cond_some (nat_le low x && nat_le x high) x n h in
    let both = and_parts (nat_le low x) (nat_le x high) fits.0 in
    (omega (arith, leb-true low x both.0, fits.1), omega (arith, leb-true x high both.1, fits.1))
between low high (negsuc x) n h = cc

numbers : (low high : ℕ) (k : PlanKey) (table : Members) (n : ℕ) → number_at low high k table ≡ Ok n → (low ≤ n) × (n ≤ high)
unfolding number_at
numbers low high k table n h =
    let p = passed (typed_at as_integer k table) _ n h in
    between low high p.0 n (found _ (number_between low high p.0) n p.2)

pub filter-valid : (keys : Keys) (table : Members) (t : Kind) → filter_at keys table ≡ Ok t → IsOfKind kind.Filter t
unfolding filter_at
filter-valid keys table t h =
    let field = passed (word_at (field_named keys) key.Field table) _ t h in
    let test = passed (word_at test_named key.Test table) _ t field.2 in
    let number = passed (typed_at as_integer key.Number table) _ t test.2 in
    let same : Do (Filter field.0 test.0 number.0) ≡ t = cc in
    subst (IsOfKind kind.Filter) same (tt, refl)

change-valid : (name : ChangeName) (z : ℤ) (c : Change) → change_by name z ≡ Some c → IsValidChange c
change-valid change_name.KeyMod z c h = map_some (λ n. change.KeyMod n) (number_between 1 MAX_KEY z) c h (λ n in_range same. subst IsValidChange same (between 1 MAX_KEY z n in_range))
change-valid change_name.KeyDiv z c h = map_some (λ n. change.KeyDiv n) (number_between 1 MAX_KEY z) c h (λ n in_range same. subst IsValidChange same (between 1 MAX_KEY z n in_range))
change-valid change_name.KeySet z c h = map_some (λ n. change.KeySet n) (number_between 0 MAX_KEY z) c h (λ n in_range same. subst IsValidChange same (between 0 MAX_KEY z n in_range).1)
change-valid change_name.ValueAdd z c h = let same : change.ValueAdd z ≡ c = cc in subst IsValidChange same tt
change-valid change_name.ValueMul z c h = let same : change.ValueMul z ≡ c = cc in subst IsValidChange same tt
change-valid change_name.ValueSet z c h = let same : change.ValueSet z ≡ c = cc in subst IsValidChange same tt

pub map-valid : (keys : Keys) (table : Members) (t : Kind) → map_at keys table ≡ Ok t → IsOfKind kind.Map t
unfolding map_at
map-valid keys table t h =
    let name = passed (word_at (change_named keys) key.Change table) _ t h in
    let number = passed (typed_at as_integer key.Number table) _ t name.2 in
    let by = passed (or_fault (OutOfRange key.Number) (change_by name.0 number.0)) _ t number.2 in
    let same : Do (Map by.0) ≡ t = cc in
    subst (IsOfKind kind.Map) same (change-valid name.0 number.0 by.0 (found _ (change_by name.0 number.0) by.0 by.1), refl)

pub expand-valid : (table : Members) (t : Kind) → expand_at table ≡ Ok t → IsOfKind kind.Expand t
unfolding expand_at
expand-valid table t h =
    let addends = passed (typed_at as_integers key.Addends table) _ t h in
    let fits = passed_if (nat_le 1 (length addends.0) && nat_le (length addends.0) MAX_ADDENDS) (OutOfRange key.Addends) (Ok (Do (Expand addends.0))) t addends.2 in
    let both = and_parts (nat_le 1 (length addends.0)) (nat_le (length addends.0) MAX_ADDENDS) fits.0 in
    let same : Do (Expand addends.0) ≡ t = let is_ok = fits.1 in cc in
    subst (IsOfKind kind.Expand) same ((leb-true 1 (length addends.0) both.0, leb-true (length addends.0) MAX_ADDENDS both.1), refl)

fixed-valid : (size : ℕ) → 1 ≤ size → size ≤ MAX_SIZE → AreWindows (fixed_windows size)
fixed-valid size some most = search rules

spacing-valid : (size every : ℕ) (w : Spacing) → spacing_of size every ≡ Ok w → AreWindows w
spacing-valid size every w h =
    let sized = passed_unless (size == 0 || nat_lt MAX_SIZE size) bad.Size _ w h in
    let spaced = passed_unless (every == 0 || (not (size % every == 0) || nat_lt MAX_WINDOWS_OF_A_TIME (size / every))) bad.Every (Ok (record { size = size; every = every })) w sized.1 in
    let same : record { size = size; every = every } ≡ w = let is_ok = spaced.1 in cc in
    let no_size = sized.0 in
    let no_every = spaced.0 in
    subst AreWindows same (record {
      some_size = grind (arith, nat_tests);
      most_size = grind (arith, nat_tests);
      some_every = grind (arith, nat_tests);
      divides = grind (arith, nat_tests);
      most_windows = grind (arith, nat_tests);
    })

in_place : {A E F : Type 0} (fault : F → E) (r : Result A F) (a : A) → in_place_of fault r ≡ Ok a → r ≡ Ok a
in_place fault (Ok x) a h = cc
in_place fault (Err f) a h = cc

every-valid : (size : ℕ) (table : Members) (w : Spacing) → 1 ≤ size → size ≤ MAX_SIZE → windows_every size table ≡ Ok w → AreWindows w
unfolding windows_every
every-valid size table w some most h = by_case (is_some (get_member (key_text key.Every) table)) h
  where
    by_case : (b : Bool) → cond b (then_test (number_at 1 MAX_SIZE key.Every table) (λ every. in_place_of (λ _. OutOfRange key.Every) (spacing_of size every))) (Ok (fixed_windows size)) ≡ Ok w → AreWindows w
    by_case true g =
        let every = passed (number_at 1 MAX_SIZE key.Every table) _ w g in
        spacing-valid size every.0 w (in_place (λ _. OutOfRange key.Every) (spacing_of size every.0) w every.2)
    by_case false g = let same : fixed_windows size ≡ w = cc in subst AreWindows same (fixed-valid size some most)

windows-valid : (table : Members) (w : Spacing) → windows_at table ≡ Ok w → AreWindows w
unfolding windows_at
windows-valid table w h =
    let size = passed (number_at 1 MAX_SIZE key.Size table) _ w h in
    let range = numbers 1 MAX_SIZE key.Size table size.0 size.1 in
    every-valid size.0 table w range.0 range.1 size.2

valid-one : (agg : Agg) → GivesOne agg → aggregate.IsValid agg
valid-one agg one = search rules

pub group-valid : (agg : Agg) (table : Members) (t : Kind) → GivesOne agg → group_at agg table ≡ Ok t → IsOfKind (kind.Group agg) t
unfolding group_at
group-valid agg table t one h =
    let windows = passed (windows_at table) _ t h in
    let same : Group agg windows.0 ≡ t = cc in
    subst (IsOfKind (kind.Group agg)) same ((valid-one agg one, windows-valid table windows.0 windows.1), refl)

pub top-valid : (table : Members) (t : Kind) → top_at table ≡ Ok t → IsOfKind kind.Top t
unfolding top_at
top-valid table t h =
    let windows = passed (windows_at table) _ t h in
    let keep = passed (number_at 1 MAX_TOP key.Keep table) _ t windows.2 in
    let same : Group (Top keep.0) windows.0 ≡ t = cc in
    subst (IsOfKind kind.Top) same ((numbers 1 MAX_TOP key.Keep table keep.0 keep.1, windows-valid table windows.0 windows.1), refl)

-- what a session gives is one value
word-gives_one : (table : Members) (agg : Agg) → word_at aggregate_named key.Give table ≡ Ok agg → GivesOne agg
unfolding word_at
word-gives_one table agg h =
    let text = passed (typed_at as_str key.Give table) _ agg h in
    some-is GivesOne (aggregate_named text.0) agg (found _ (aggregate_named text.0) agg text.2) (gives-one text.0)

pub session-valid : (table : Members) (t : Kind) → session_at table ≡ Ok t → IsOfKind kind.Session t
unfolding session_at
session-valid table t h =
    let gap = passed (number_at 1 MAX_GAP key.Gap table) _ t h in
    let agg = passed (word_at aggregate_named key.Give table) _ t gap.2 in
    let same : Session agg.0 gap.0 ≡ t = cc in
    subst (IsOfKind kind.Session) same ((word-gives_one table agg.0 agg.1, numbers 1 MAX_GAP key.Gap table gap.0 gap.1), refl)

pub join-valid : (table : Members) (t : Kind) → join_at table ≡ Ok t → IsOfKind kind.Join t
unfolding join_at
join-valid table t h =
    let size = passed (number_at 1 MAX_SIZE key.Size table) _ t h in
    let combine = passed (word_at combine_named key.Give table) _ t size.2 in
    let range = numbers 1 MAX_SIZE key.Size table size.0 size.1 in
    let same : Join combine.0 (fixed_windows size.0) ≡ t = cc in
    subst (IsOfKind kind.Join) same ((fixed-valid size.0 range.0 range.1, refl), refl)

-- what a field spells is a key
spelled-key : (keys : Keys) (field : List ℕ) (k : Key) → key_of keys field ≡ Some k → IsKey k
spelled-key Numbers field k h =
    map_some (λ n. Number n) (whole_number MAX_KEY field) k h (λ n spelled same. subst IsKey same ((whole_number_exact MAX_KEY field n (omega arith)).0 spelled).0)
spelled-key Words field k h =
    let fits = cond_some (is_word field) (Word field) k h in
    subst IsKey fits.1 fits.0

-- the images of a table are keys
passed_row : {A B : Type 0} (n : ℕ) (r : Result A RowFault) (f : A → Result B TableFault) (b : B) → at_row n r f ≡ Ok b → (a : A) × (r ≡ Ok a) × (f a ≡ Ok b)
passed_row n (Ok a) f b h = (a, refl, h)
passed_row n (Err e) f b h = cc

image-valid : (keys : Keys) (seen : FinMap key_cmp Key) (row : Fields) (e : Key × Key) → entry_of keys seen row ≡ Ok e → IsKey e.1
unfolding entry_of
image-valid keys seen row e h =
    let columns = passed (or_fault row_fault.Width (columns_of row)) _ e h in
    let key = passed (or_fault row_fault.Key (key_of keys columns.0.0)) _ e columns.2 in
    let image = passed (or_fault row_fault.Image (key_of keys columns.0.1)) _ e key.2 in
    let new = passed_unless (is_some (get seen key.0)) row_fault.Repeated (Ok (key.0, image.0)) e image.2 in
    let same : (key.0, image.0) ≡ e = let is_ok = new.1 in cc in
    subst (λ p. IsKey p.1) same (spelled-key keys columns.0.1 image.0 (found _ (key_of keys columns.0.1) image.0 image.1))

table-valid : (keys : Keys) (n : ℕ) (seen table : FinMap key_cmp Key) (rows : List Fields) → HasKeyImages seen → table_from keys n seen rows ≡ Ok table → HasKeyImages table
unfolding table_from
table-valid keys n seen table [] images h = let same : seen ≡ table = cc in subst HasKeyImages same images
table-valid keys n seen table (row ∷ rows) images h =
    let first = passed_row n (cond (nat_lt MAX_ROWS n) (Err row_fault.TooMany) (entry_of keys seen row)) _ table h in
    let entry = passed_unless (nat_lt MAX_ROWS n) row_fault.TooMany (entry_of keys seen row) first.0 first.1 in
    table-valid keys (n + 1) (insert seen first.0.0 first.0.1) table rows (images_with seen first.0.0 first.0.1 images (image-valid keys seen row first.0 entry.1)) first.2

pub lookup-valid : (keys : Keys) (bytes : List ℕ) (t : Kind) → lookup_in keys bytes ≡ Ok t → IsOfKind kind.Lookup t
unfolding lookup_in
lookup-valid keys bytes t h =
    let short = passed_unless (nat_lt MAX_TABLE_BYTES (length bytes)) TableTooLong _ t h in
    let table = passed (in_place_of (λ fault. TableRow fault) (table_of keys bytes)) _ t short.1 in
    let same : Do (Lookup table.0) ≡ t = cc in
    subst (IsOfKind kind.Lookup) same (table-valid keys 1 empty table.0 (rows_of bytes) no_images (in_place (λ fault. TableRow fault) (table_of keys bytes) table.0 table.1), refl)

lookup_file-valid : (files : Files) (keys : Keys) (table : Members) (t : Kind) → lookup_at files keys table ≡ Ok t → IsOfKind kind.Lookup t
unfolding lookup_at
lookup_file-valid files keys table t h =
    let name = passed_text (word_at file_name key.Table table) _ t h in
    let file = is_there (λ bytes. by_text (lookup_in keys bytes)) (files name.0) t name.2 in
    lookup-valid keys file.0 t (of_text (lookup_in keys file.0) t file.1)

-- the transform of a kind
pub transform-valid : (files : Files) (keys : Keys) (name : KindName) (table : Members) (t : Kind) → IsNamed name → transform_at files keys name table ≡ Ok t → IsOfKind name t
unfolding transform_at
transform-valid files keys kind.Filter table t one h = filter-valid keys table t (of_text (filter_at keys table) t h)
transform-valid files keys kind.Map table t one h = map-valid keys table t (of_text (map_at keys table) t h)
transform-valid files keys kind.Expand table t one h = expand-valid table t (of_text (expand_at table) t h)
transform-valid files keys kind.Lookup table t one h = lookup_file-valid files keys table t h
transform-valid files keys (kind.Group agg) table t one h = group-valid agg table t one (of_text (group_at agg table) t h)
transform-valid files keys kind.Top table t one h = top-valid table t (of_text (top_at table) t h)
transform-valid files keys kind.Session table t one h = session-valid table t (of_text (session_at table) t h)
transform-valid files keys kind.Join table t one h = join-valid table t (of_text (join_at table) t h)

-- the same of answers that may want memory
pub expanded-valid : (table : Members) (r : Result Kind Stop) → AnswersTests r (by_text (expand_at table)) → IfOk r (IsOfKind kind.Expand)
expanded-valid table (Ok t) h = expand-valid table t (of_text (expand_at table) t h)
expanded-valid table (Err s) h = tt

pub looked_up-valid : (keys : Keys) (bytes : List ℕ) (r : Result Kind Stop) → AnswersTests r (by_text (lookup_in keys bytes)) → IfOk r (IsOfKind kind.Lookup)
looked_up-valid keys bytes (Ok t) h = lookup-valid keys bytes t (of_text (lookup_in keys bytes) t h)
looked_up-valid keys bytes (Err s) h = tt
