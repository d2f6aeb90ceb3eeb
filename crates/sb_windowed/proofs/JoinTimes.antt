-- The times of the rows of a join.
use Rattle.std.proofs.Common.{◌≡◌, ℕ, ◌+◌, ◌≤◌, true, List}
use Rattle.std.specs.List.{list_any, AllByRecursion}
use Rattle.sb_window.specs.records.declared.item.Record.{Record}
use Rattle.sb_window.specs.ElementLemmas.{All-flat_map, All-map}
use Rattle.sb_window.specs.Spacing.{Spacing}
use Rattle.sb_window.specs.Windows.{is_in, keyed_windows, values_in}
use Rattle.sb_window.proofs.Rows.{row, last_time, All-keyed_windows}
use Rattle.sb_windowed.specs.declared.join.Combine.{Combine}
use Rattle.sb_windowed.specs.Joins.{pair_values, pairs, join_rows}

-- a row's window ends at most a size after the greatest time of a left record
pub join_rows-times : (combine : Combine) (windows : Spacing) (bound : ℕ) (left right : List Record) → AllByRecursion (λ r. r.time ≤ bound) left → AllByRecursion (λ r. r.time + 1 ≤ bound + windows.size) (join_rows combine windows left right)
join_rows-times combine windows bound left right low =
    All-flat_map (λ q. list_any (is_in windows q) left ≡ true) (λ r. r.time + 1 ≤ bound + windows.size) (pairs combine windows left right)
    (λ q h. All-map (λ r. r.time + 1 ≤ bound + windows.size) (row q) (λ v. last_time windows bound q left low h) (pair_values combine (values_in windows q left) (values_in windows q right)))
    (keyed_windows windows left) (All-keyed_windows windows left)
