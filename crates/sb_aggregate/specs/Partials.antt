-- What is kept of the values of a keyed window until it closes: its partial value, a list of values.
use Rattle.std.specs.Prelude.{ℕ, ℤ, Bool, true, false, ◌-◌, nat_lt, if◌then◌else◌, List, [], ◌∷◌, ◌++◌, length, map, Option, None}
use Rattle.std.specs.Ordering.{int_cmp}
use Rattle.sb_runs.specs.records.declared.item.Record.{Record}
use Rattle.sb_runs.specs.records.Orders.{distinct}
use Rattle.sb_runs.specs.window.declared.keyed_window.KeyedWindow.{KeyedWindow}
use Rattle.sb_runs.specs.window.Spacing.{Spacing}
use Rattle.sb_runs.specs.window.Gatherings.{gathered_value}
use Rattle.sb_windowed.specs.declared.aggregate.Agg.{Agg}
use Rattle.sb_windowed.specs.declared.aggregate.Agg.TheVariants.{Count, Sum, Distinct, Top}
use Rattle.sb_windowed.specs.Aggregates.{signed_value, aggregate_values}

-- a partial value for each of some keyed windows
abbrev pub PartialValues : Type 0
PartialValues = List (KeyedWindow × List ℤ)

-- the partial value of values: the different ones, where these are counted, and else what is made of the values
abbrev pub partial_values : Agg → List ℤ → List ℤ
partial_values Distinct vs = distinct int_cmp vs
partial_values agg vs = aggregate_values agg vs

-- the aggregation that makes one partial value of two: counts are added up
abbrev pub joining : Agg → Agg
joining Count = Sum
joining agg = agg

-- whether the partial value of any values is a single one
abbrev pub is_single : Agg → Bool
is_single Distinct = false
is_single (Top k) = false
is_single agg = true

-- the partial value of what two partial values stand for
abbrev pub join_values : Agg → List ℤ → List ℤ → List ℤ
join_values agg vs ws = partial_values (joining agg) (vs ++ ws)

-- what is made of the values that a partial value stands for
abbrev pub final_values : Agg → List ℤ → List ℤ
final_values Distinct vs = signed_value (length vs) ∷ []
final_values agg vs = vs

-- the partial value of the values of a keyed window, where records lie in it
abbrev pub partial_at : Agg → Spacing → List Record → KeyedWindow → Option (List ℤ)
partial_at agg windows l q = gathered_value (partial_values agg) windows l q

-- the same, where the time of the window's rows is from a mark on
abbrev pub partial_from : Agg → Spacing → ℕ → List Record → KeyedWindow → Option (List ℤ)
partial_from agg windows mark l q = if nat_lt (q.end - 1) mark then None else partial_at agg windows l q

-- the rows of a keyed window with these values
abbrev pub rows_of_values : KeyedWindow → List ℤ → List Record
rows_of_values q vs = map (λ v. record { time = q.end - 1; key = q.key; value = v }) vs
