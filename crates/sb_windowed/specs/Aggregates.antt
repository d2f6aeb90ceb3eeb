-- What is made of the values of a keyed window.
use Rattle.std.specs.Prelude.{ℕ, ℤ, ◌%◌, ◌^◌, ◌≤◌, List, [], ◌∷◌, length, take}
use Rattle.std.specs.Int.{cast_signed, w64}
use Rattle.std.specs.Ordering.{int_cmp, flip_args}
use Rattle.sb_window.specs.records.declared.item.Record.{Record}
use Rattle.sb_window.specs.records.Orders.{in_order, distinct}
use Rattle.sb_window.specs.Spacing.{Spacing}
use Rattle.sb_window.specs.Aggregations.{rows_by, sum_values}
use Rattle.sb_windowed.specs.declared.aggregate.Agg.{Agg}
use Rattle.sb_windowed.specs.declared.aggregate.Agg.TheVariants.{Count, Sum, Min, Max, Distinct, Top}
use Rattle.sb_windowed.specs.declared.aggregate.TheConstants.{MAX_TOP}

-- the aggregation can be asked for
abbrev pub IsValid : Agg → Type 0
IsValid (Top k) = (1 ≤ k) × (k ≤ MAX_TOP)
IsValid _ = Unit {0}

-- the aggregation gives one value of each window or session
abbrev pub GivesOne : Agg → Type 0
GivesOne (Top k) = ⊥
GivesOne _ = Unit {0}

-- a number of values as a value, which wraps as 64-bit numbers do
abbrev pub signed_value : ℕ → ℤ
signed_value n = cast_signed w64 (n % 2 ^ 64)

abbrev pub greatest_first : List ℤ → List ℤ
greatest_first vs = in_order (flip_args int_cmp) vs

-- what is made of the values
abbrev pub aggregate_values : Agg → List ℤ → List ℤ
aggregate_values Count vs = signed_value (length vs) ∷ []
aggregate_values Sum vs = sum_values vs
aggregate_values Min vs = take 1 (in_order int_cmp vs)
aggregate_values Max vs = take 1 (greatest_first vs)
aggregate_values Distinct vs = signed_value (length (distinct int_cmp vs)) ∷ []
aggregate_values (Top k) vs = take k (greatest_first vs)

-- the rows of all keyed windows that have records
abbrev pub aggregate_rows : Agg → Spacing → List Record → List Record
aggregate_rows agg windows l = rows_by (aggregate_values agg) windows l
