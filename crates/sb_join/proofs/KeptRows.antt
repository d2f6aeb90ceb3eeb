-- The rows of what a join keeps: those of its entries are the join's.
use Rattle.std.proofs.Common.{◌≡◌, ℕ, ℤ, ◌-◌, ◌≤◌, Bool, true, false, cond, List, [], ◌∷◌, ◌++◌, map, Option, Some, None, sym, refl, ap, ◌∙◌, arith}
use Rattle.std.specs.Prelude.{◌||◌, ◌&&◌}
use Rattle.std.specs.List.{filter, flat_map, list_any, AllByRecursion}
use Rattle.std.specs.Option.{is_some}
use Rattle.std.specs.Map.{keys_of}
use Rattle.std.specs.BTreeMap.{is_at}
use Rattle.std.specs.Ordering.{eq_by_cmp}
use Rattle.std.proofs.Math.Bool.{and-true}
use Rattle.std.proofs.lemmas.List.Kept.{IsStrictlySortedBy-filter}
use Rattle.std.proofs.lemmas.Map.Lookups.{btree_set_from_contains}
use Rattle.std.proofs.lemmas.Map.Made.{is_some-lookup}
use Rattle.std.proofs.lemmas.Map.Views.{any-filter_same, tells_apart}
use Rattle.sb_runs.specs.records.declared.item.Record.{Record}
use Rattle.sb_runs.proofs.records.Distinct.{distinct-sorted}
use Rattle.sb_runs.proofs.records.Elements.{All-any, All-flat_map, All-map, All-join}
use Rattle.sb_runs.specs.window.declared.keyed_window.KeyedWindow.{KeyedWindow}
use Rattle.sb_runs.specs.window.Gatherings.{rows_of_entries}
use Rattle.sb_runs.specs.window.Spacing.{Spacing}
use Rattle.sb_runs.specs.window.Windows.{keyed_window_cmp, windows_of, keyed_windows, is_in, values_in}
use Rattle.sb_runs.specs.Runs.{IsRun, found}
use Rattle.sb_runs.proofs.window.Gathering.{all-found}
use Rattle.sb_runs.proofs.window.Rows.{row, keyed_windows_total, exact_keyed_windows, any_keyed_windows, All-keyed_windows, end-of}
use Rattle.sb_windowed.specs.declared.join.Combine.{Combine}
use Rattle.sb_windowed.specs.declared.join.Side.TheVariants.{Left, Right}
use Rattle.sb_windowed.specs.Joins.{pair_values, pairs, join_rows}
use Rattle.sb_join.specs.Entries.{Sided, of_side, combined_values, values_at}
use Rattle.sb_join.proofs.KeptValues.{AreOpen, values_in-kept}

-- ---- the times of rows
-- rows have the last times of the windows of their entries
pub rows-times : (P : ℕ → Type 0) (values : Sided → List ℤ) (es : List (KeyedWindow × Sided)) → AllByRecursion (λ q. P (q.end - 1)) (keys_of es) → AllByRecursion (λ r. P r.time) (rows_of_entries values es)
rows-times P values [] all = tt
rows-times P values (e ∷ es) all = All-join (λ r. P r.time) (map (row e.0) (values e.1)) (rows_of_entries values es) (All-map (λ r. P r.time) (row e.0) (λ v. all.0) (values e.1)) (rows-times P values es all.1)

-- rows of records from a mark on are from it on
pub join_rows-from : (combine : Combine) (windows : Spacing) (mark : ℕ) (left right : List Record) → AllByRecursion (λ r. mark ≤ r.time) left → AllByRecursion (λ r. mark ≤ r.time) (join_rows combine windows left right)
join_rows-from combine windows mark left right from =
    All-flat_map (λ q. list_any (is_in windows q) left ≡ true) (λ r. mark ≤ r.time) (pairs combine windows left right)
    (λ q some. All-map (λ r. mark ≤ r.time) (row q) (λ v. All-any (λ r. mark ≤ r.time) (mark ≤ q.end - 1) (is_in windows q) (λ r h is. omega (arith, h, (end-of windows q r is).0)) left from some) (pair_values combine (values_in windows q left) (values_in windows q right)))
    (keyed_windows windows left) (All-keyed_windows windows left)

-- ---- the rows of a map
abbrev has_some : List ℤ → Bool
has_some [] = false
has_some (v ∷ vs) = true

none-left : (vs : List ℤ) → has_some vs ≡ false → vs ≡ []
none-left [] h = refl
none-left (v ∷ vs) h = cc

some-values : (p : Record → Bool) (l : List Record) → list_any p l ≡ has_some (map (λ r. r.value) (filter p l))
some-values p [] = refl
some-values p (r ∷ l) = elim (p r) as (λ b. (b || list_any p l) ≡ has_some (map (λ (r : Record). r.value) (cond b (r ∷ filter p l) (filter p l)))) [ true ↦ refl | false ↦ some-values p l ]

flat_map-passing : {X : Type 0} (p : X → Bool) (g : X → List Record) → ((x : X) → p x ≡ false → g x ≡ []) → (xs : List X) → flat_map g (filter p xs) ≡ flat_map g xs
flat_map-passing p g none [] = refl
flat_map-passing p g none (x ∷ xs) =
    elim (p x) as (λ b. (b ≡ false → g x ≡ []) → flat_map g (cond b (x ∷ filter p xs) (filter p xs)) ≡ g x ++ flat_map g xs) [
      | true ↦ λ e. ap (λ l. g x ++ l) (flat_map-passing p g none xs)
      | false ↦ λ e. flat_map-passing p g none xs ∙ (λ i. sym (e refl) i ++ flat_map g xs)
    ] (none x)

module _ (combine : Combine) (windows : Spacing) (fixed : windows.size ≡ windows.every) (mark : ℕ) (es : List (KeyedWindow × Sided)) (run : IsRun es) (ends_late : AreOpen windows mark es) where
  abbrev left : List Record
  left = rows_of_entries (of_side Left) es

  abbrev right : List Record
  right = rows_of_entries (of_side Right) es

  abbrev has_left : KeyedWindow → Bool
  has_left q = has_some (values_at Left (found es q))

  has_left-kept : (o : Option Sided) → has_some (values_at Left o) ≡ (has_some (values_at Left o) && is_some o)
  has_left-kept None = refl
  has_left-kept (Some v) = sym (and-true (has_some (of_side Left v)))

  windows-left : keyed_windows windows left ≡ filter has_left (keys_of es)
  windows-left = btree_set_from_contains keyed_windows_total (record { keys = keyed_windows windows left }) (record { keys = filter has_left (keys_of es) })
      (distinct-sorted keyed_windows_total (flat_map (windows_of windows) left)) (IsStrictlySortedBy-filter keyed_window_cmp has_left (keys_of es) run)
      (λ q. any_keyed_windows windows q left ∙ some-values (is_in windows q) left ∙ ap has_some (values_in-kept windows fixed mark es run ends_late Left q)
      ∙ has_left-kept (found es q) ∙ ap (λ b. has_left q && b) (is_some-lookup (is_at (keyed_window_cmp q)) es)
      ∙ sym (any-filter_same (eq_by_cmp keyed_window_cmp q) has_left (has_left q) (λ x same. ap has_left (sym (tells_apart exact_keyed_windows q x same))) (keys_of es)))
      exact_keyed_windows

  none-paired : (q : KeyedWindow) → has_left q ≡ false → pairs combine windows left right q ≡ []
  none-paired q none = ap (λ vs. map (row q) (pair_values combine vs (values_in windows q right))) (values_in-kept windows fixed mark es run ends_late Left q ∙ none-left (values_at Left (found es q)) none)

  each : (xs : List (KeyedWindow × Sided)) → AllByRecursion (λ (e : KeyedWindow × Sided). found es e.0 ≡ Some e.1) xs → flat_map (pairs combine windows left right) (keys_of xs) ≡ rows_of_entries (combined_values combine) xs
  each [] all = refl
  each (e ∷ xs) all = λ i.
      map (row e.0) (pair_values combine ((values_in-kept windows fixed mark es run ends_late Left e.0 ∙ ap (values_at Left) all.0) i) ((values_in-kept windows fixed mark es run ends_late Right e.0 ∙ ap (values_at Right) all.0) i)) ++ each xs all.1 i

  pub join_rows-kept : join_rows combine windows left right ≡ rows_of_entries (combined_values combine) es
  join_rows-kept =
      ap (flat_map (pairs combine windows left right)) windows-left
      ∙ flat_map-passing has_left (pairs combine windows left right) none-paired (keys_of es)
      ∙ each es (all-found es run)
