-- How a join keeps records: the values of both sides by keyed window, in sorted runs.
use Rattle.std.specs.Prelude.{◌≡◌, ℕ, ℤ, ◌%◌, ◌<◌, Bool, true, false, List, [], ◌++◌, map, filter, Option, Some, None, unwrap_or}
use Rattle.std.specs.List.{flat_map, list_any}
use Rattle.std.specs.Map.{keys_of}
use Rattle.std.specs.Option.{is_some}
use Rattle.sb_runs.specs.Runs.{found, found_in}
use Rattle.sb_runs.specs.records.declared.item.Record.{Record}
use Rattle.sb_runs.specs.records.Elements.{on_lane, of_lane}
use Rattle.sb_runs.specs.records.Orders.{distinct}
use Rattle.sb_runs.specs.records.Reorderings.{IsReordered}
use Rattle.sb_runs.specs.window.declared.keyed_window.KeyedWindow.{KeyedWindow}
use Rattle.sb_runs.specs.window.Gatherings.{rows_of_entries}
use Rattle.sb_runs.specs.window.Spacing.{Spacing}
use Rattle.sb_runs.specs.window.Windows.{keyed_window_cmp, is_in, values_in}
use Rattle.sb_windowed.specs.declared.join.Combine.{Combine}
use Rattle.sb_windowed.specs.declared.join.Side.{Side}
use Rattle.sb_windowed.specs.declared.join.Side.TheVariants.{Left, Right}
use Rattle.sb_windowed.specs.Joins.{pair_values}
use Rattle.sb_join.specs.Kept.{lane_of}

-- values, each with the side on which it came
abbrev pub Sided : Type 0
Sided = List (Side × ℤ)

-- whether two sides are one
abbrev pub same_side : Side → Side → Bool
same_side Left Left = true
same_side Left Right = false
same_side Right Left = false
same_side Right Right = true

-- the values of a side
abbrev pub of_side : Side → Sided → List ℤ
of_side side vs = map (λ v. v.1) (filter (λ v. same_side side v.0) vs)

-- the combined values of both sides
abbrev pub combined_values : Combine → Sided → List ℤ
combined_values combine vs = pair_values combine (of_side Left vs) (of_side Right vs)

-- the values of a side of what is there, if anything is
abbrev pub values_at : Side → Option Sided → List ℤ
values_at side None = []
values_at side (Some vs) = of_side side vs

-- what runs have for a keyed window: later values stand behind
abbrev pub kept_at : List (List (KeyedWindow × Sided)) → KeyedWindow → Option Sided
kept_at runs q = found_in (λ v w. v ++ w) runs q

-- an entry for each keyed window of runs, in order
abbrev pub entries_of : List (List (KeyedWindow × Sided)) → List (KeyedWindow × Sided)
entries_of runs = map (λ q. (q, unwrap_or (kept_at runs q) [])) (distinct keyed_window_cmp (flat_map keys_of runs))

-- the values of a side of all entries, each as a record of its keyed window, with the last time of that
abbrev pub kept_of : Side → List (List (KeyedWindow × Sided)) → List Record
kept_of side runs = rows_of_entries (of_side side) (entries_of runs)

-- a window of this spacing that ends after the mark
pub record IsOpen (windows : Spacing) (mark : ℕ) (q : KeyedWindow) : Type 0 where
  pub late : mark < q.end
  pub whole : q.end % windows.every ≡ 0

-- all windows of the runs end after the mark
abbrev pub AreKept : Spacing → ℕ → List (List (KeyedWindow × Sided)) → Type 0
AreKept windows mark runs = (q : KeyedWindow) → is_some (kept_at runs q) ≡ true → IsOpen windows mark q

-- the run has the values of these records, which came on a side, in any order
pub record HasPart (windows : Spacing) (side : Side) (records : List Record)
    (run : List (KeyedWindow × Sided)) : Type 0 where
  pub values : (s : Side) (q : KeyedWindow) → IsReordered (values_at s (found run q))
      (values_in windows q (of_lane (lane_of s) (on_lane (lane_of side) records)))
  pub within : (q : KeyedWindow) → is_some (found run q) ≡ true → list_any (is_in windows q) records ≡ true
