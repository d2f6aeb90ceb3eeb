-- What an aggregation gives for a keyed window depends on the records in it alone.
use Rattle.std.proofs.Common.{◌≡◌, ℕ, ℤ, ◌+◌, ◌-◌, ◌%◌, ◌≤◌, ◌<◌, Bool, true, false, cond, eqb, List, [], ◌∷◌, ◌++◌, map, get_or, sym, refl, ap, ◌∙◌, arith}
use Rattle.std.specs.Prelude.{◌||◌, ◌&&◌, nat_lt}
use Rattle.std.specs.List.{filter, list_any, flat_map, AllByRecursion}
use Rattle.std.specs.Ordering.{eq_by_cmp, nat_cmp}
use Rattle.std.specs.Cmp.{IsTotalOrder, nat_cmp_total, eq_by_cmp_equiv, tied_then}
use Rattle.std.proofs.lemmas.Cmp.{then_total, on_total}
use Rattle.std.proofs.lemmas.Bool.Decides.{nat_tests}
use Rattle.std.proofs.Math.Bool.{and_comm, and-or_distrib_right}
use Rattle.std.proofs.lemmas.Bool.{lt-ltb, ltb-true, eqb-true, and_parts, false_from_ne_true}
use Rattle.std.proofs.lemmas.List.Elements.{filter-append, recursion_from_All}
use Rattle.std.proofs.lemmas.List.Folds.{list_any-append, list_any_none, Any-from_list_any, list_any-from_Any}
use Rattle.std.proofs.lemmas.Map.Lookups.{CmpEqualImpliesEq, exact_pairs, exact_unsigned}
use Rattle.std.proofs.lemmas.Map.Made.{All-is_member}
use Rattle.std.specs.Set.{is_member}
use Rattle.sb_record.specs.declared.item.Record.{Record}
use Rattle.sb_record.specs.declared.key.Key.{Key}
use Rattle.sb_record.specs.Keys.{key_cmp, same_key}
use Rattle.sb_record.specs.KeyOrder.{key_cmp_total}
use Rattle.sb_record.specs.Records.{before}
use Rattle.sb_record.specs.Reorderings.{IsReordered}
use Rattle.sb_record.proofs.KeyOrder.{exact_keys}
use Rattle.sb_record.proofs.Elements.{every, All-any, All-map, All-flat_map, filter_all, filter_of_filter}
use Rattle.sb_record.proofs.Sums.{IsReordered-map, IsReordered-filter, any_reordered, any_filtered, none_pass}
use Rattle.sb_record.proofs.Distinct.{distinct-same, any_distinct}
use Rattle.sb_window.specs.declared.keyed_window.KeyedWindow.{KeyedWindow}
use Rattle.sb_window.specs.Spacing.{Spacing}
use Rattle.sb_window.specs.Windows.{window_ends, keyed_window_cmp, windows_of, keyed_windows, is_in, values_in}
use Rattle.sb_window.specs.Aggregations.{rows_in, rows_by}
use Rattle.sb_window.specs.Reorderings.{IgnoresOrder}
use Rattle.sb_window.specs.Laws.{RowsDoNotDependOnOrder, ClosedWindowsDependOnEarlierRecords}
use Rattle.sb_window.proofs.Multiples.{All-window_ends}

-- ---- keyed windows are ordered, and those that compare alike are one
pub keyed_windows_total : IsTotalOrder keyed_window_cmp
keyed_windows_total = then_total (on_total (λ (q : KeyedWindow). q.end) nat_cmp_total) (on_total (λ (q : KeyedWindow). q.key) key_cmp_total)

pub exact_keyed_windows : CmpEqualImpliesEq keyed_window_cmp
exact_keyed_windows a b h = ap (λ (p : ℕ × Key). record { end = p.0; key = p.1 }) (exact_pairs nat_cmp key_cmp exact_unsigned exact_keys (a.end, a.key) (b.end, b.key) h)

-- whether two keyed windows are one
pub same_keyed_window : (p q : KeyedWindow) → eq_by_cmp keyed_window_cmp p q ≡ (eqb p.end q.end && same_key p.key q.key)
same_keyed_window p q = sym (tied_then (nat_cmp p.end q.end) (key_cmp p.key q.key)) ∙ ap (λ b. b && same_key p.key q.key) same_end
  where
    same_end : eq_by_cmp nat_cmp p.end q.end ≡ eqb p.end q.end
    same_end = grind (arith, nat_tests)

-- a keyed window is among those of a record just where the record lies in it
any_windows_of : (windows : Spacing) (q : KeyedWindow) (r : Record) → list_any (eq_by_cmp keyed_window_cmp q) (windows_of windows r) ≡ is_in windows q r
any_windows_of windows q r = among (window_ends windows r.time) ∙ and_comm _ (same_key r.key q.key)
  where
    one : (e : ℕ) → eq_by_cmp keyed_window_cmp q (record { end = e; key = r.key }) ≡ (eqb e q.end && same_key r.key q.key)
    one e = (eq_by_cmp_equiv keyed_windows_total).symm q (record { end = e; key = r.key }) ∙ same_keyed_window (record { end = e; key = r.key }) q

    among : (es : List ℕ) → list_any (eq_by_cmp keyed_window_cmp q) (map (λ e. record { end = e; key = r.key }) es) ≡ (list_any (λ e. eqb e q.end) es && same_key r.key q.key)
    among [] = refl
    among (e ∷ es) = (λ i. one e i || among es i) ∙ sym (and-or_distrib_right (eqb e q.end) _ (same_key r.key q.key))

any_windows : (windows : Spacing) (q : KeyedWindow) (l : List Record) → list_any (eq_by_cmp keyed_window_cmp q) (flat_map (windows_of windows) l) ≡ list_any (is_in windows q) l
any_windows windows q [] = refl
any_windows windows q (r ∷ l) = list_any-append (eq_by_cmp keyed_window_cmp q) (windows_of windows r) (flat_map (windows_of windows) l) ∙ (λ i. any_windows_of windows q r i || any_windows windows q l i)

-- a keyed window is among those that have records just where a record lies in it
pub any_keyed_windows : (windows : Spacing) (q : KeyedWindow) (l : List Record) → list_any (eq_by_cmp keyed_window_cmp q) (keyed_windows windows l) ≡ list_any (is_in windows q) l
any_keyed_windows windows q l = any_distinct keyed_windows_total exact_keyed_windows q (flat_map (windows_of windows) l) ∙ any_windows windows q l

pub All-keyed_windows : (windows : Spacing) (l : List Record) → AllByRecursion (λ q. list_any (is_in windows q) l ≡ true) (keyed_windows windows l)
All-keyed_windows windows l =
    every (λ q h. sym (any_keyed_windows windows q l) ∙ h) (keyed_windows windows l)
    (recursion_from_All (λ q. is_member (eq_by_cmp keyed_window_cmp) (keyed_windows windows l) q ≡ true) (keyed_windows windows l) (All-is_member (eq_by_cmp_equiv keyed_windows_total) (keyed_windows windows l)))

-- ---- which records lie in a keyed window
-- the window of a record ends after it, and at most a size after it
pub end-of : (windows : Spacing) (q : KeyedWindow) (r : Record) → is_in windows q r ≡ true → (r.time < q.end) × (q.end ≤ r.time + windows.size)
end-of windows q r h =
    All-any (λ e. (r.time < e) × (e ≤ r.time + windows.size) × (e % windows.every ≡ 0)) ((r.time < q.end) × (q.end ≤ r.time + windows.size)) (λ e. eqb e q.end)
    (λ e within same. let is : e ≡ q.end = eqb-true e q.end same in (omega (arith, within.0), omega (arith, within.1)))
    (window_ends windows r.time) (All-window_ends windows r.time) (and_parts (same_key r.key q.key) _ h).1

-- the last time of a keyed window that has records, where their times are bounded
pub last_time : (windows : Spacing) (bound : ℕ) (q : KeyedWindow) (l : List Record) → AllByRecursion (λ r. r.time ≤ bound) l → list_any (is_in windows q) l ≡ true → (q.end - 1) + 1 ≤ bound + windows.size
last_time windows bound q l low some =
    All-any (λ r. r.time ≤ bound) ((q.end - 1) + 1 ≤ bound + windows.size) (is_in windows q) (λ r h is. let end = end-of windows q r is in omega (arith, end.0, end.1, h)) l low some

-- the records before a mark are all that lie in a window that ends by it
pub in_closed : (windows : Spacing) (mark : ℕ) (q : KeyedWindow) → q.end ≤ mark → (l : List Record) → filter (is_in windows q) (before mark l) ≡ filter (is_in windows q) l
in_closed windows mark q ends_by l = filter_of_filter (is_in windows q) (λ r. nat_lt r.time mark) (λ r h. lt-ltb r.time mark (omega (arith, (end-of windows q r h).0))) l

-- whether a record has a window that ends after the mark
abbrev pub is_open_at : Spacing → ℕ → Record → Bool
is_open_at windows mark r = list_any (λ end. nat_lt mark end) (window_ends windows r.time)

list_any-weaker : (p q : ℕ → Bool) → ((x : ℕ) → p x ≡ true → q x ≡ true) → (l : List ℕ) → list_any p l ≡ true → list_any q l ≡ true
list_any-weaker p q w l h = let (k, x, within, at, passes) = Any-from_list_any p l h in list_any-from_Any q l (k, x, within, at, w x passes)

-- the records that have a window which ends after a mark are all that lie in such a window
pub in_open : (windows : Spacing) (mark : ℕ) (q : KeyedWindow) → mark < q.end → (l : List Record) → filter (is_in windows q) (filter (is_open_at windows mark) l) ≡ filter (is_in windows q) l
in_open windows mark q after l =
    filter_of_filter (is_in windows q) (is_open_at windows mark)
    (λ r h. list_any-weaker (λ e. eqb e q.end) (λ e. nat_lt mark e) (λ x e. let is : x ≡ q.end = eqb-true x q.end e in lt-ltb mark x (omega arith)) (window_ends windows r.time) (and_parts (same_key r.key q.key) _ h).1) l

-- no record lies in a window that ends at 0
pub none_in_zero : (windows : Spacing) (q : KeyedWindow) → q.end ≡ 0 → (l : List Record) → filter (is_in windows q) l ≡ []
none_in_zero windows q z l =
    none_pass (is_in windows q) l (list_any_none (is_in windows q) l (λ k d _. false_from_ne_true (is_in windows q (get_or l k d)) (λ e. omega (arith, (end-of windows q (get_or l k d) e).0))))

-- ---- the rows of some times
-- the same records, in order, in each keyed window that passes
abbrev pub SameIn : Spacing → (KeyedWindow → Bool) → List Record → List Record → Type 0
SameIn windows p l m = (q : KeyedWindow) → p q ≡ true → filter (is_in windows q) l ≡ filter (is_in windows q) m

-- the records whose time passes
abbrev pub when : (ℕ → Bool) → List Record → List Record
when t l = filter (λ r. t r.time) l

pub flat_map-agree : (p : KeyedWindow → Bool) (g h : KeyedWindow → List Record) → ((q : KeyedWindow) → p q ≡ true → g q ≡ h q) → (qs : List KeyedWindow) → flat_map g (filter p qs) ≡ flat_map h (filter p qs)
flat_map-agree p g h same [] = refl
flat_map-agree p g h same (q ∷ qs) =
    elim (p q) as (λ b. (b ≡ true → g q ≡ h q) → flat_map g (cond b (q ∷ filter p qs) (filter p qs)) ≡ flat_map h (cond b (q ∷ filter p qs) (filter p qs))) [
      | true ↦ λ e. λ i. e refl i ++ flat_map-agree p g h same qs i
      | false ↦ λ e. flat_map-agree p g h same qs
    ] (same q)

-- where each keyed window that passes has records in both lists or in neither, the same ones of those pass
pub keyed_windows-same : (windows : Spacing) (p : KeyedWindow → Bool) (l m : List Record) → ((q : KeyedWindow) → p q ≡ true → list_any (is_in windows q) l ≡ list_any (is_in windows q) m)
    → filter p (keyed_windows windows l) ≡ filter p (keyed_windows windows m)
keyed_windows-same windows p l m same =
    distinct-same keyed_windows_total exact_keyed_windows p (flat_map (windows_of windows) l) (flat_map (windows_of windows) m) (λ q e. any_windows windows q l ∙ same q e ∙ sym (any_windows windows q m))

-- the row of a keyed window with this value
abbrev pub row : KeyedWindow → ℤ → Record
row q v = record { time = q.end - 1; key = q.key; value = v }

when-row : (t : ℕ → Bool) (q : KeyedWindow) (vs : List ℤ) → when t (map (row q) vs) ≡ cond (t (q.end - 1)) (map (row q) vs) []
when-row t q [] = elim (t (q.end - 1)) as (λ b. [] ≡ cond {A = List Record} b [] []) [ true ↦ refl | false ↦ refl ]
when-row t q (v ∷ vs) =
    elim (t (q.end - 1)) as (λ b. (when t (map (row q) vs) ≡ cond b (map (row q) vs) []) → cond b (row q v ∷ when t (map (row q) vs)) (when t (map (row q) vs)) ≡ cond b (map (row q) (v ∷ vs)) []) [
      | true ↦ λ h. ap (λ l. row q v ∷ l) h
      | false ↦ λ h. h
    ] (when-row t q vs)

-- the rows of some times are those of the keyed windows of these times
pub when-rows : (t : ℕ → Bool) (values : KeyedWindow → List ℤ) (qs : List KeyedWindow) → when t (flat_map (λ q. map (row q) (values q)) qs) ≡ flat_map (λ q. map (row q) (values q)) (filter (λ q. t (q.end - 1)) qs)
when-rows t values [] = refl
when-rows t values (q ∷ qs) =
    filter-append (λ r. t r.time) (map (row q) (values q)) (flat_map (λ q. map (row q) (values q)) qs)
    ∙ (λ i. when-row t q (values q) i ++ when-rows t values qs i)
    ∙ (elim (t (q.end - 1)) as (λ b. cond b (map (row q) (values q)) [] ++ flat_map (λ q. map (row q) (values q)) (filter (λ q. t (q.end - 1)) qs) ≡ flat_map (λ q. map (row q) (values q)) (cond b (q ∷ filter (λ q. t (q.end - 1)) qs) (filter (λ q. t (q.end - 1)) qs))) [ true ↦ refl | false ↦ refl ])

-- the values of records that differ in order alone
pub values_in-reordered : (windows : Spacing) (q : KeyedWindow) (l m : List Record) → IsReordered l m → IsReordered (values_in windows q l) (values_in windows q m)
values_in-reordered windows q l m h = IsReordered-map (λ r. r.value) (filter (is_in windows q) l) (filter (is_in windows q) m) (IsReordered-filter (is_in windows q) l m h)

module _ (values : List ℤ → List ℤ) (windows : Spacing) where
  -- the rows of some times are those of any list whose keyed windows of these times have records alike and give the same
  rows_by-agree : (t : ℕ → Bool) (l m : List Record) → ((q : KeyedWindow) → t (q.end - 1) ≡ true → list_any (is_in windows q) l ≡ list_any (is_in windows q) m)
      → ((q : KeyedWindow) → t (q.end - 1) ≡ true → values (values_in windows q l) ≡ values (values_in windows q m)) → when t (rows_by values windows l) ≡ when t (rows_by values windows m)
  rows_by-agree t l m any same =
      when-rows t (λ q. values (values_in windows q l)) (keyed_windows windows l)
      ∙ flat_map-agree (λ q. t (q.end - 1)) (rows_in values windows l) (rows_in values windows m) (λ q e. ap (map (row q)) (same q e)) (keyed_windows windows l)
      ∙ ap (flat_map (rows_in values windows m)) (keyed_windows-same windows (λ q. t (q.end - 1)) l m any)
      ∙ sym (when-rows t (λ q. values (values_in windows q m)) (keyed_windows windows m))

  -- the rows of some times are those of any list with the same records in the keyed windows of these times
  pub rows_by-same : (t : ℕ → Bool) (l m : List Record) → SameIn windows (λ q. t (q.end - 1)) l m → when t (rows_by values windows l) ≡ when t (rows_by values windows m)
  rows_by-same t l m same =
      rows_by-agree t l m (λ q e. any_filtered (is_in windows q) l m (same q e)) (λ q e. ap (λ rs. values (map (λ r. r.value) rs)) (same q e))

  -- the rows before a mark are given by the records before it
  pub rows_by-closed : (t : ℕ → Bool) (mark : ℕ) → ((x : ℕ) → t x ≡ true → x < mark) → (l : List Record) → when t (rows_by values windows l) ≡ when t (rows_by values windows (before mark l))
  rows_by-closed t mark low l = rows_by-same t l (before mark l) (λ q e. let k : q.end - 1 < mark = low (q.end - 1) e in sym (in_closed windows mark q (omega arith) l))

  -- the rows of records that differ in order alone
  pub rows_by-order : IgnoresOrder values → (l m : List Record) → IsReordered l m → rows_by values windows l ≡ rows_by values windows m
  rows_by-order ignores l m h =
      sym (filter_all (rows_by values windows l))
      ∙ rows_by-agree (λ _. true) l m (λ q e. any_reordered (is_in windows q) l m h)
      (λ q e. ignores (values_in windows q l) (values_in windows q m) (values_in-reordered windows q l m h))
      ∙ filter_all (rows_by values windows m)

  -- ---- the times of rows
  -- a row's window ends at most a size after the greatest time
  pub rows_by-times : (bound : ℕ) (l : List Record) → AllByRecursion (λ r. r.time ≤ bound) l → AllByRecursion (λ r. r.time + 1 ≤ bound + windows.size) (rows_by values windows l)
  rows_by-times bound l low =
      All-flat_map (λ q. list_any (is_in windows q) l ≡ true) (λ r. r.time + 1 ≤ bound + windows.size) (rows_in values windows l)
      (λ q h. All-map (λ r. r.time + 1 ≤ bound + windows.size) (row q) (λ v. last_time windows bound q l low h) (values (values_in windows q l)))
      (keyed_windows windows l) (All-keyed_windows windows l)

-- ---- the laws
pub rows_by-orderless : RowsDoNotDependOnOrder
rows_by-orderless values ignores windows l m h = rows_by-order values windows ignores l m h

pub rows_by-before : ClosedWindowsDependOnEarlierRecords
rows_by-before values windows mark l = rows_by-closed values windows (λ x. nat_lt x mark) mark (λ x h. ltb-true x mark h) l
