-- What a table says of its transform, by the keys of its kind.
use Rattle.std.specs.Prelude.{nat_lt, nat_le, ◌&&◌, if◌then◌else◌, option_and_then, ℕ, ℤ, ◌∷◌, [], List, length, Option, Some, None, is_some, Result, Ok, Err}
use Rattle.toml.specs.Data.{Data, Items, no_items, item, Members, get_member, as_array, as_integer}
use Rattle.sb_outside.specs.Folders.{Files}
use Rattle.sb_pipeline.specs.records.declared.key.Keys.{Keys}
use Rattle.sb_pipeline.specs.window.declared.windows.TheConstants.{MAX_SIZE}
use Rattle.sb_pipeline.specs.window.Spacing.{Spacing, fixed_windows}
use Rattle.sb_pipeline.specs.window.Windows.{spacing_of}
use Rattle.sb_pipeline.specs.pardo.declared.operation.TheConstants.{MAX_ADDENDS}
use Rattle.sb_pipeline.specs.pardo.declared.operation.Op.TheVariants.{Filter, Map, Expand, Lookup}
use Rattle.sb_pipeline.specs.pardo.TableFiles.{then_test, or_fault, table_of}
use Rattle.sb_pipeline.specs.windowed.declared.aggregate.Agg.{Agg}
use Rattle.sb_pipeline.specs.windowed.declared.aggregate.Agg.TheVariants.{Top}
use Rattle.sb_pipeline.specs.windowed.declared.aggregate.TheConstants.{MAX_TOP}
use Rattle.sb_pipeline.specs.declared.transform.Kind.{Kind}
use Rattle.sb_pipeline.specs.windowed.declared.session.TheConstants.{MAX_GAP}
use Rattle.sb_pipeline.specs.declared.transform.Kind.TheVariants.{Do, Group, Session, Join}
use Rattle.sb_plan.specs.declared.fault.PlanKey.TheVariants as key
use Rattle.sb_plan.specs.declared.fault.PlanCause.{PlanCause}
use Rattle.sb_plan.specs.declared.fault.PlanCause.TheVariants.{OutOfRange, TableRow, TableTooLong}
use Rattle.sb_plan.specs.declared.words.KindName.{KindName}
use Rattle.sb_plan.specs.declared.words.KindName.TheVariants as kind
use Rattle.sb_plan.specs.declared.TheConstants.{MAX_TABLE_BYTES}
use Rattle.sb_plan.specs.Failures.{Failure, by_text, in_file, in_place_of}
use Rattle.sb_plan.specs.Keys.{key_text, typed_at, word_at, number_at}
use Rattle.sb_plan.specs.Words.{field_named, test_named, change_named, change_by, aggregate_named, combine_named}

-- a filter: `field`, `test`, `number`
unfoldable pub filter_at : Keys → Members → Result Kind PlanCause
filter_at keys table =
    then_test (word_at (field_named keys) key.Field table) (λ field.
    then_test (word_at test_named key.Test table) (λ test.
    then_test (typed_at as_integer key.Number table) (λ number.
    Ok (Do (Filter field test number)))))

-- a map: `change`, `number`
unfoldable pub map_at : Keys → Members → Result Kind PlanCause
map_at keys table =
    then_test (word_at (change_named keys) key.Change table) (λ name.
    then_test (typed_at as_integer key.Number table) (λ number.
    then_test (or_fault (OutOfRange key.Number) (change_by name number)) (λ change.
    Ok (Do (Map change)))))

-- the integers that the items are, if all of them are integers
abbrev pub and_then : {A : Type 0} → Option A → Option (List A) → Option (List A)
and_then (Some x) (Some xs) = Some (x ∷ xs)
and_then _ _ = None

unfoldable pub integers_of : Items → Option (List ℤ)
integers_of no_items = Some []
integers_of (item value rest) = and_then (as_integer value) (integers_of rest)

-- the items of an array, if all of them are integers
abbrev pub as_integers : Data → Option (List ℤ)
as_integers value = option_and_then integers_of (as_array value)

-- an expansion: `addends`, 1 to 8 of them
unfoldable pub expand_at : Members → Result Kind PlanCause
expand_at table =
    then_test (typed_at as_integers key.Addends table) (λ addends.
    if nat_le 1 (length addends) && nat_le (length addends) MAX_ADDENDS
    then Ok (Do (Expand addends))
    else Err (OutOfRange key.Addends))

-- the windows of this size at `every`, which may be left out and is then the size
unfoldable pub windows_every : ℕ → Members → Result Spacing PlanCause
windows_every size table =
    if is_some (get_member (key_text key.Every) table)
    then then_test (number_at 1 MAX_SIZE key.Every table) (λ every.
    in_place_of (λ _. OutOfRange key.Every) (spacing_of size every))
    else Ok (fixed_windows size)

-- windows: `size`, `every`
unfoldable pub windows_at : Members → Result Spacing PlanCause
windows_at table = then_test (number_at 1 MAX_SIZE key.Size table) (λ size. windows_every size table)

-- an aggregation: its windows
unfoldable pub group_at : Agg → Members → Result Kind PlanCause
group_at agg table = then_test (windows_at table) (λ windows. Ok (Group agg windows))

-- the greatest values: their windows, and `keep`, 1 to 16
unfoldable pub top_at : Members → Result Kind PlanCause
top_at table =
    then_test (windows_at table) (λ windows.
    then_test (number_at 1 MAX_TOP key.Keep table) (λ keep.
    Ok (Group (Top keep) windows)))

-- sessions: `gap` and `give`
unfoldable pub session_at : Members → Result Kind PlanCause
session_at table =
    then_test (number_at 1 MAX_GAP key.Gap table) (λ gap.
    then_test (word_at aggregate_named key.Give table) (λ agg.
    Ok (Session agg gap)))

-- a join: `size` of its fixed windows, and `give`
unfoldable pub join_at : Members → Result Kind PlanCause
join_at table =
    then_test (number_at 1 MAX_SIZE key.Size table) (λ size.
    then_test (word_at combine_named key.Give table) (λ combine.
    Ok (Join combine (fixed_windows size))))

-- the name of a file: a text of at least one byte
abbrev pub file_name : List ℕ → Option (List ℕ)
file_name [] = None
file_name (byte ∷ bytes) = Some (byte ∷ bytes)

-- the transform that looks keys up in the table of a text
unfoldable pub lookup_in : Keys → List ℕ → Result Kind PlanCause
lookup_in keys bytes =
    if nat_lt MAX_TABLE_BYTES (length bytes) then Err TableTooLong
    else then_test (in_place_of (λ fault. TableRow fault) (table_of keys bytes)) (λ table. Ok (Do (Lookup table)))

-- a look-up: `table`, a file of the folder
unfoldable pub lookup_at : Files → Keys → Members → Result Kind (Failure PlanCause)
lookup_at files keys table =
    then_test (by_text (word_at file_name key.Table table)) (λ name.
    in_file (λ bytes. by_text (lookup_in keys bytes)) (files name))

-- the transform of a kind, where keys are these
unfoldable pub transform_at : Files → Keys → KindName → Members → Result Kind (Failure PlanCause)
transform_at files keys kind.Filter table = by_text (filter_at keys table)
transform_at files keys kind.Map table = by_text (map_at keys table)
transform_at files keys kind.Expand table = by_text (expand_at table)
transform_at files keys kind.Lookup table = lookup_at files keys table
transform_at files keys (kind.Group agg) table = by_text (group_at agg table)
transform_at files keys kind.Top table = by_text (top_at table)
transform_at files keys kind.Session table = by_text (session_at table)
transform_at files keys kind.Join table = by_text (join_at table)
