-- The words of plan files, and what they stand for.
use Rattle.std.specs.Prelude.{codes, bytes_eq, ℕ, ℤ, Bool, true, false, if◌then◌else◌, List, [], ◌∷◌, Option, Some, None}
use Rattle.std.specs.Map.{lookup}
use Rattle.std.specs.Option.{option_map, option_or}
use Rattle.sb_pipeline.specs.records.declared.key.TheConstants.{MAX_KEY}
use Rattle.sb_pipeline.specs.records.declared.key.Keys.{Keys}
use Rattle.sb_pipeline.specs.records.declared.key.Keys.TheVariants.{Numbers, Words}
use Rattle.sb_pipeline.specs.records.declared.intake.LatePolicy.{LatePolicy}
use Rattle.sb_pipeline.specs.records.declared.intake.LatePolicy.TheVariants as late
use Rattle.sb_pipeline.specs.pardo.declared.operation.Field.{Field}
use Rattle.sb_pipeline.specs.pardo.declared.operation.Field.TheVariants as field
use Rattle.sb_pipeline.specs.pardo.declared.operation.Test.{Test}
use Rattle.sb_pipeline.specs.pardo.declared.operation.Test.TheVariants as test
use Rattle.sb_pipeline.specs.pardo.declared.operation.Change.{Change}
use Rattle.sb_pipeline.specs.pardo.declared.operation.Change.TheVariants as change
use Rattle.sb_pipeline.specs.windowed.declared.aggregate.Agg.{Agg}
use Rattle.sb_pipeline.specs.windowed.declared.aggregate.Agg.TheVariants as agg
use Rattle.sb_pipeline.specs.windowed.Aggregates.{GivesOne}
use Rattle.sb_pipeline.specs.windowed.declared.join.Combine.{Combine}
use Rattle.sb_pipeline.specs.windowed.declared.join.Combine.TheVariants as combine
use Rattle.sb_plan.specs.declared.words.KindName.{KindName}
use Rattle.sb_plan.specs.declared.words.KindName.TheVariants as kind
use Rattle.sb_plan.specs.declared.words.ChangeName.{ChangeName}
use Rattle.sb_plan.specs.declared.words.ChangeName.TheVariants as change_name
use Rattle.sb_plan.specs.Keys.{number_between}

-- what stands beside the first word of a table that is the text
abbrev pub named : {A : Type 0} → List (List ℕ × A) → List ℕ → Option A
named table text = lookup (bytes_eq text) table

-- what is named, if it passes
abbrev pub if_passes : {A : Type 0} → (A → Bool) → Option A → Option A
if_passes passes (Some x) = if passes x then Some x else None
if_passes passes None = None

-- what becomes of late records
unfoldable pub late_named : List ℕ → Option LatePolicy
late_named = named ((codes "refuse", late.Refuse) ∷ (codes "drop", late.Drop) ∷ [])

-- what keys are
unfoldable pub keys_named : List ℕ → Option Keys
keys_named = named ((codes "numbers", Numbers) ∷ (codes "words", Words) ∷ [])

-- whether keys are numbers
abbrev pub are_numbers : Keys → Bool
are_numbers Numbers = true
are_numbers Words = false

-- the aggregations that give one value: each is a kind of transform, and sessions may give it
abbrev pub aggregates : List (List ℕ × Agg)
aggregates =
    (codes "count", agg.Count) ∷
    (codes "sum", agg.Sum) ∷
    (codes "min", agg.Min) ∷
    (codes "max", agg.Max) ∷
    (codes "distinct", agg.Distinct) ∷
    []

unfoldable pub aggregate_named : List ℕ → Option Agg
aggregate_named = named aggregates

-- the kinds of transforms beside those aggregations
abbrev pub other_kinds : List (List ℕ × KindName)
other_kinds =
    (codes "filter", kind.Filter) ∷
    (codes "map", kind.Map) ∷
    (codes "expand", kind.Expand) ∷
    (codes "lookup", kind.Lookup) ∷
    (codes "top", kind.Top) ∷
    (codes "session", kind.Session) ∷
    (codes "join", kind.Join) ∷
    []

-- the kinds of transforms
unfoldable pub kind_named : List ℕ → Option KindName
kind_named text = option_or (named other_kinds text) (option_map (λ agg. kind.Group agg) (aggregate_named text))

-- a kind that a word may name: its aggregation gives one value
abbrev pub IsNamed : KindName → Type 0
IsNamed (kind.Group agg) = GivesOne agg
IsNamed _ = Unit {0}

-- the fields of a record
abbrev pub fields : List (List ℕ × Field)
fields = (codes "time", field.Time) ∷ (codes "key", field.Key) ∷ (codes "value", field.Value) ∷ []

-- whether a filter may test the field: the key only if it is a number
abbrev pub may_test : Keys → Field → Bool
may_test keys field.Key = are_numbers keys
may_test keys _ = true

-- the fields of a record that a filter tests
unfoldable pub field_named : Keys → List ℕ → Option Field
field_named keys text = if_passes (may_test keys) (named fields text)

-- how a field has to stand to a number
unfoldable pub test_named : List ℕ → Option Test
test_named = named (
    (codes "less", test.Less) ∷
    (codes "at_most", test.AtMost) ∷
    (codes "equal", test.Equal) ∷
    (codes "at_least", test.AtLeast) ∷
    (codes "more", test.More) ∷
    [])

-- the changes of a field, without their number
abbrev pub changes : List (List ℕ × ChangeName)
changes =
    (codes "key_mod", change_name.KeyMod) ∷
    (codes "key_div", change_name.KeyDiv) ∷
    (codes "key_set", change_name.KeySet) ∷
    (codes "value_add", change_name.ValueAdd) ∷
    (codes "value_mul", change_name.ValueMul) ∷
    (codes "value_set", change_name.ValueSet) ∷
    []

-- whether a map may make the change: one of the key only if it is a number
abbrev pub may_change : Keys → ChangeName → Bool
may_change keys change_name.KeyMod = are_numbers keys
may_change keys change_name.KeyDiv = are_numbers keys
may_change keys change_name.KeySet = are_numbers keys
may_change keys _ = true

-- the changes that a map makes
unfoldable pub change_named : Keys → List ℕ → Option ChangeName
change_named keys text = if_passes (may_change keys) (named changes text)

-- the change by a number: keys are divided by 1 to the greatest key, and set to 0 to the greatest key
abbrev pub change_by : ChangeName → ℤ → Option Change
change_by change_name.KeyMod number = option_map (λ n. change.KeyMod n) (number_between 1 MAX_KEY number)
change_by change_name.KeyDiv number = option_map (λ n. change.KeyDiv n) (number_between 1 MAX_KEY number)
change_by change_name.KeySet number = option_map (λ n. change.KeySet n) (number_between 0 MAX_KEY number)
change_by change_name.ValueAdd number = Some (change.ValueAdd number)
change_by change_name.ValueMul number = Some (change.ValueMul number)
change_by change_name.ValueSet number = Some (change.ValueSet number)

-- how the values of a pair are combined
unfoldable pub combine_named : List ℕ → Option Combine
combine_named = named (
    (codes "add", combine.Add) ∷
    (codes "sub", combine.Sub) ∷
    (codes "mul", combine.Mul) ∷
    (codes "min", combine.Min) ∷
    (codes "max", combine.Max) ∷
    (codes "left", combine.Left) ∷
    (codes "right", combine.Right) ∷
    [])
