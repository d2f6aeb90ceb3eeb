-- What a join keeps, as records, has the values of its entries.
use Rattle.std.proofs.Common.{◌≡◌, ℕ, ◌-◌, ◌<◌, Bool, true, false, cond, List, [], ◌∷◌, ◌++◌, map, Option, Some, None, append-nil, subst, sym, refl, ap, ◌∙◌, arith}
use Rattle.std.specs.Prelude.{◌||◌, unwrap_or}
use Rattle.std.specs.List.{flat_map, list_any, AllByRecursion}
use Rattle.std.specs.List.Sorted.{IsStrictlySortedBy}
use Rattle.std.specs.Map.{keys_of}
use Rattle.std.specs.Option.{is_some}
use Rattle.std.specs.Ordering.{eq_by_cmp, is_eq}
use Rattle.std.specs.declared.cmp.Ordering.{Ordering}
use Rattle.std.specs.declared.cmp.Ordering.TheVariants.{Less, Equal, Greater}
use Rattle.std.specs.BTreeMap.{is_at}
use Rattle.std.specs.Cmp.{eq_by_cmp_equiv}
use Rattle.std.specs.Set.{is_member}
use Rattle.std.proofs.lemmas.List.Elements.{recursion_from_All}
use Rattle.std.proofs.lemmas.List.Folds.{list_any-append}
use Rattle.std.proofs.lemmas.Map.Made.{is_some-lookup, All-is_member}
use Rattle.std.proofs.lemmas.Map.Views.{tells_apart}
use Rattle.sb_runs.specs.Runs.{IsRun, found}
use Rattle.sb_runs.proofs.Found.{run-rest, none-behind}
use Rattle.sb_runs.specs.records.Orders.{distinct}
use Rattle.sb_runs.proofs.records.Distinct.{distinct-sorted, any_distinct}
use Rattle.sb_runs.proofs.records.Elements.{every}
use Rattle.sb_runs.specs.window.declared.keyed_window.KeyedWindow.{KeyedWindow}
use Rattle.sb_runs.specs.window.Gatherings.{rows_of_entries}
use Rattle.sb_runs.specs.window.Spacing.{Spacing}
use Rattle.sb_runs.specs.window.Windows.{window_ends, keyed_window_cmp, values_in}
use Rattle.sb_runs.proofs.window.Rows.{row, keyed_windows_total, exact_keyed_windows}
use Rattle.sb_windowed.specs.declared.join.Side.{Side}
use Rattle.sb_join.specs.Entries.{Sided, of_side, values_at, kept_at, entries_of, IsOpen, AreKept}
use Rattle.sb_join.proofs.Fixed.{one_window, values_in-append, values_in-rows}
use Rattle.sb_join.proofs.Sides.{is_some-joined}

-- ---- one entry for each window of runs
keys-made : {V : Type 0} (made : KeyedWindow → V) (qs : List KeyedWindow) → keys_of (map (λ q. (q, made q)) qs) ≡ qs
keys-made made [] = refl
keys-made made (q ∷ qs) = ap (λ ks. q ∷ ks) (keys-made made qs)

found-made : {V : Type 0} (made : KeyedWindow → V) (qs : List KeyedWindow) (q : KeyedWindow) → found (map (λ q. (q, made q)) qs) q ≡ cond (list_any (eq_by_cmp keyed_window_cmp q) qs) (Some (made q)) None
found-made made [] q = refl
found-made {V} made (p ∷ qs) q = by_case (is_at (keyed_window_cmp q) p) refl (found-made made qs q)
  where
    by_case : (b : Bool) → is_at (keyed_window_cmp q) p ≡ b → found (map (λ q. (q, made q)) qs) q ≡ cond (list_any (eq_by_cmp keyed_window_cmp q) qs) (Some (made q)) None
        → cond b (Some (made p)) (found (map (λ q. (q, made q)) qs) q) ≡ cond (b || list_any (eq_by_cmp keyed_window_cmp q) qs) (Some (made q)) None
    by_case true same rest = ap (λ k. Some (made k)) (sym (tells_apart exact_keyed_windows q p same))
    by_case false other rest = rest

some-kept : (runs : List (List (KeyedWindow × Sided))) (q : KeyedWindow) → is_some (kept_at runs q) ≡ list_any (eq_by_cmp keyed_window_cmp q) (flat_map keys_of runs)
some-kept [] q = refl
some-kept (run ∷ runs) q =
    is_some-joined (found run q) (kept_at runs q)
    ∙ (λ i. is_some-lookup (is_at (keyed_window_cmp q)) run i || some-kept runs q i)
    ∙ sym (list_any-append (eq_by_cmp keyed_window_cmp q) (keys_of run) (flat_map keys_of runs))

pub entries-run : (runs : List (List (KeyedWindow × Sided))) → IsRun (entries_of runs)
entries-run runs =
    let qs : List KeyedWindow = distinct keyed_window_cmp (flat_map keys_of runs) in
    subst (IsStrictlySortedBy keyed_window_cmp) (sym (keys-made (λ q. unwrap_or (kept_at runs q) []) qs)) (distinct-sorted keyed_windows_total (flat_map keys_of runs))

pub entries-found : (runs : List (List (KeyedWindow × Sided))) (q : KeyedWindow) → found (entries_of runs) q ≡ kept_at runs q
entries-found runs q =
    found-made (λ q. unwrap_or (kept_at runs q) []) (distinct keyed_window_cmp (flat_map keys_of runs)) q
    ∙ ap (λ b. cond b (Some (unwrap_or (kept_at runs q) [])) None) (any_distinct keyed_windows_total exact_keyed_windows q (flat_map keys_of runs) ∙ sym (some-kept runs q))
    ∙ unwrapped (kept_at runs q)
  where
    unwrapped : (o : Option Sided) → cond (is_some o) (Some (unwrap_or o [])) None ≡ o
    unwrapped None = refl
    unwrapped (Some v) = refl

-- ---- windows that are open
-- all windows of entries end after a mark
abbrev pub AreOpen : Spacing → ℕ → List (KeyedWindow × Sided) → Type 0
AreOpen windows mark es = (q : KeyedWindow) → is_some (found es q) ≡ true → IsOpen windows mark q

pub entries-open : (windows : Spacing) (mark : ℕ) (runs : List (List (KeyedWindow × Sided))) → AreKept windows mark runs → AreOpen windows mark (entries_of runs)
entries-open windows mark runs kept q some = kept q (ap is_some (sym (entries-found runs q)) ∙ some)

-- what holds of each window that is found holds of all
pub all-found-windows : (P : KeyedWindow → Type 0) (es : List (KeyedWindow × Sided)) → ((q : KeyedWindow) → is_some (found es q) ≡ true → P q) → AllByRecursion P (keys_of es)
all-found-windows P es each =
    every (λ q at. each q (is_some-lookup (is_at (keyed_window_cmp q)) es ∙ at)) (keys_of es)
    (recursion_from_All (λ q. is_member (eq_by_cmp keyed_window_cmp) (keys_of es) q ≡ true) (keys_of es) (All-is_member (eq_by_cmp_equiv keyed_windows_total) (keys_of es)))

-- the window that an entry is of, by the times of its records
abbrev AreWhole : Spacing → List (KeyedWindow × Sided) → Type 0
AreWhole windows es = AllByRecursion (λ e. window_ends windows (e.0.end - 1) ≡ e.0.end ∷ []) es

-- windows that are open are whole, where windows are fixed
whole-open : (windows : Spacing) → windows.size ≡ windows.every → (mark : ℕ) (es : List (KeyedWindow × Sided)) → AllByRecursion (IsOpen windows mark) (keys_of es) → AreWhole windows es
whole-open windows fixed mark [] all = tt
whole-open windows fixed mark (e ∷ es) all =
    let some : 0 < windows.every = omega (arith, all.0.late, all.0.whole) in
    (one_window windows fixed some (e.0.end - 1) e.0.end all.0.whole (omega (arith, all.0.late)) (omega (arith, all.0.late)), whole-open windows fixed mark es all.1)

-- ---- the values of entries
is_equal : (o : Ordering) → is_eq o ≡ true → o ≡ Equal
is_equal Less h = cc
is_equal Equal h = refl
is_equal Greater h = cc

values_in-entries : (windows : Spacing) (side : Side) (q : KeyedWindow) (es : List (KeyedWindow × Sided)) → IsRun es → AreWhole windows es → values_in windows q (rows_of_entries (of_side side) es) ≡ values_at side (found es q)
values_in-entries windows side q [] run whole = refl
values_in-entries windows side q (e ∷ es) run whole =
    values_in-append windows q (map (row e.0) (of_side side e.1)) (rows_of_entries (of_side side) es)
    ∙ (λ i. (values_in-rows windows e.0 q whole.0 (of_side side e.1) ∙ ap (λ b. cond b (of_side side e.1) []) ((eq_by_cmp_equiv keyed_windows_total).symm e.0 q)) i ++ values_in-entries windows side q es (run-rest e es run) whole.1 i)
    ∙ by_case (is_at (keyed_window_cmp q) e.0) refl
  where
    by_case : (b : Bool) → is_at (keyed_window_cmp q) e.0 ≡ b → cond b (of_side side e.1) [] ++ values_at side (found es q) ≡ values_at side (cond b (Some e.1) (found es q))
    by_case true same = ap (λ o. of_side side e.1 ++ values_at side o) (none-behind e es q (is_equal (keyed_window_cmp q e.0) same) run) ∙ append-nil (of_side side e.1)
    by_case false other = refl

pub values_in-kept : (windows : Spacing) → windows.size ≡ windows.every → (mark : ℕ) (es : List (KeyedWindow × Sided)) → IsRun es → AreOpen windows mark es → (side : Side) (q : KeyedWindow)
    → values_in windows q (rows_of_entries (of_side side) es) ≡ values_at side (found es q)
values_in-kept windows fixed mark es run ends_late side q =
    values_in-entries windows side q es run (whole-open windows fixed mark es (all-found-windows (IsOpen windows mark) es ends_late))
