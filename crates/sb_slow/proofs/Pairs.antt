-- The rows of the pairs of what two maps gathered.
use Rattle.std.proofs.Common.{◌≡◌, ℤ, ◌-◌, Bool, true, false, cond, List, [], ◌∷◌, ◌++◌, map, Some, None, unwrap_or, refl, sym, ap, ◌∙◌}
use Rattle.std.specs.List.{flat_map, list_any}
use Rattle.std.specs.BTreeMap.{BTreeMap, IsOrdered, get}
use Rattle.sb_base.specs.records.declared.item.Record.{Record}
use Rattle.sb_base.specs.window.declared.keyed_window.KeyedWindow.{KeyedWindow}
use Rattle.sb_base.specs.window.Spacing.{Spacing}
use Rattle.sb_base.specs.window.Windows.{is_in, keyed_window_cmp, keyed_windows, values_in}
use Rattle.sb_base.proofs.records.Sums.{none_pass}
use Rattle.sb_base.proofs.window.Gathering.{entries-keyed_windows}
use Rattle.sb_base.specs.windowed.declared.join.Combine.{Combine}
use Rattle.sb_base.specs.windowed.Joins.{pair_values, pairs, join_rows}
use Rattle.sb_slow.specs.Gathered.{values_at, rows_of_pairs}

-- a left value has no pair where there is no right one
pub pair_values-nil : (combine : Combine) (xs : List ℤ) → pair_values combine xs [] ≡ []
pair_values-nil combine [] = refl
pair_values-nil combine (x ∷ xs) = pair_values-nil combine xs

-- the values gathered for a keyed window, where there are any, are those in it
values_or_nil : (windows : Spacing) (l : List Record) (q : KeyedWindow) → unwrap_or (values_at windows l q) [] ≡ values_in windows q l
values_or_nil windows l q = by_case (list_any (is_in windows q) l) refl
  where
    by_case : (b : Bool) → list_any (is_in windows q) l ≡ b → unwrap_or (cond b (Some (values_in windows q l)) None) [] ≡ values_in windows q l
    by_case true e = refl
    by_case false e = sym (ap (map (λ (r : Record). r.value)) (none_pass (is_in windows q) l e))

-- the rows of the pairs of what was gathered of two lists of records are the join's
pub rows_of_pairs-gathered : (combine : Combine) (windows : Spacing) (left right : List Record) (m n : BTreeMap KeyedWindow (List ℤ)) → IsOrdered keyed_window_cmp m
    → ((q : KeyedWindow) → get keyed_window_cmp m q ≡ values_at windows left q) → ((q : KeyedWindow) → get keyed_window_cmp n q ≡ values_at windows right q)
    → rows_of_pairs combine (get keyed_window_cmp n) m.entries ≡ join_rows combine windows left right
rows_of_pairs-gathered combine windows left right m n ordered at there =
    ap (rows_of_pairs combine (get keyed_window_cmp n)) (entries-keyed_windows windows left (λ q. values_in windows q left) m ordered at) ∙ each (keyed_windows windows left)
  where
    row : KeyedWindow → ℤ → Record
    row q v = record { time = q.end - 1; key = q.key; value = v }

    each : (qs : List KeyedWindow) → rows_of_pairs combine (get keyed_window_cmp n) (map (λ q. (q, values_in windows q left)) qs) ≡ flat_map (pairs combine windows left right) qs
    each [] = refl
    each (q ∷ qs) =
        λ i. map (λ v. record { time = q.end - 1; key = q.key; value = v }) (pair_values combine (values_in windows q left) ((ap (λ o. unwrap_or o []) (there q) ∙ values_or_nil windows right q) i)) ++ each qs i
