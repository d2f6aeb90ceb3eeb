-- The rows of a join depend on the records of each keyed window alone.
use Rattle.std.proofs.Common.{◌≡◌, ℕ, ℤ, ◌-◌, ◌≤◌, ◌<◌, Bool, true, false, cond, ltb, List, [], ◌∷◌, length, map, refl, sym, ap, ◌∙◌, arith}
use Rattle.std.specs.Prelude.{nat_lt}
use Rattle.std.specs.List.{filter, flat_map, list_any, sum_by}
use Rattle.std.proofs.lemmas.Bool.{ltb-true}
use Rattle.std.proofs.lemmas.List.{length-map}
use Rattle.std.proofs.lemmas.List.Sums.{length-filter}
use Rattle.sb_window.specs.records.declared.item.Record.{Record}
use Rattle.sb_window.specs.records.Records.{before}
use Rattle.sb_window.specs.SumLemmas.{IsReordered-append, IsReordered-map, any_by_count}
use Rattle.sb_window.specs.records.Reorderings.{IsReordered}
use Rattle.sb_window.proofs.Marks.{length-reordered}
use Rattle.sb_window.specs.declared.keyed_window.KeyedWindow.{KeyedWindow}
use Rattle.sb_window.specs.Spacing.{Spacing}
use Rattle.sb_window.specs.Windows.{is_in, keyed_windows, values_in}
use Rattle.sb_window.proofs.Rows.{row, when, when-rows, flat_map-agree, in_closed, keyed_windows-same}
use Rattle.sb_windowed.specs.declared.join.Combine.{Combine}
use Rattle.sb_windowed.specs.Joins.{pair_values, pairs, join_rows}
use Rattle.sb_windowed.proofs.PairOrder.{reordered_pair_values}
use Rattle.sb_windowed.specs.Laws.{JoinsDoNotDependOnOrder, ClosedJoinsDependOnEarlierRecords}
pub use Rattle.sb_windowed.proofs.PairOrder.{join_rows-reordered}

module _ (combine : Combine) (windows : Spacing) where
  -- ---- the rows of some times
  -- the rows of some times are those of any lists with the same values in the keyed windows of these times
  pub join_rows-agree : (t : ℕ → Bool) (l m r s : List Record) → ((q : KeyedWindow) → t (q.end - 1) ≡ true → values_in windows q l ≡ values_in windows q m)
      → ((q : KeyedWindow) → t (q.end - 1) ≡ true → values_in windows q r ≡ values_in windows q s) → when t (join_rows combine windows l r) ≡ when t (join_rows combine windows m s)
  join_rows-agree t l m r s h k =
      when-rows t (values l r) (keyed_windows windows l)
      ∙ flat_map-agree (λ q. t (q.end - 1)) (pairs combine windows l r) (pairs combine windows m s) (λ q e i. map (row q) (pair_values combine (h q e i) (k q e i))) (keyed_windows windows l)
      ∙ ap (flat_map (pairs combine windows m s)) (keyed_windows-same windows (λ q. t (q.end - 1)) l m (λ q e. any_valued q l m (h q e)))
      ∙ sym (when-rows t (values m s) (keyed_windows windows m))
    where
      values : List Record → List Record → KeyedWindow → List ℤ
      values l r q = pair_values combine (values_in windows q l) (values_in windows q r)

      some_values : (q : KeyedWindow) (l : List Record) → list_any (is_in windows q) l ≡ ltb 0 (length (values_in windows q l))
      some_values q l = any_by_count (is_in windows q) l ∙ ap (ltb 0) (sym (length-map (filter (is_in windows q) l) (λ (r : Record). r.value) ∙ length-filter (is_in windows q) l))

      any_valued : (q : KeyedWindow) (l m : List Record) → values_in windows q l ≡ values_in windows q m → list_any (is_in windows q) l ≡ list_any (is_in windows q) m
      any_valued q l m same = some_values q l ∙ ap (λ vs. ltb 0 (length vs)) same ∙ sym (some_values q m)

  -- where the values come in another order, the rows do
  pub join_rows-alike : (t : ℕ → Bool) (l m r s : List Record) → ((q : KeyedWindow) → t (q.end - 1) ≡ true → IsReordered (values_in windows q l) (values_in windows q m))
      → ((q : KeyedWindow) → t (q.end - 1) ≡ true → IsReordered (values_in windows q r) (values_in windows q s)) → IsReordered (when t (join_rows combine windows l r)) (when t (join_rows combine windows m s))
  join_rows-alike t l m r s h k f =
      ap (sum_by f) (when-rows t (values l r) (keyed_windows windows l))
      ∙ each (λ q. t (q.end - 1)) (pairs combine windows l r) (pairs combine windows m s) alike (keyed_windows windows l) f
      ∙ ap (λ qs. sum_by f (flat_map (pairs combine windows m s) qs)) (keyed_windows-same windows (λ q. t (q.end - 1)) l m (λ q e. any_valued q (h q e)))
      ∙ sym (ap (sum_by f) (when-rows t (values m s) (keyed_windows windows m)))
    where
      values : List Record → List Record → KeyedWindow → List ℤ
      values l r q = pair_values combine (values_in windows q l) (values_in windows q r)

      some_values : (q : KeyedWindow) (l : List Record) → list_any (is_in windows q) l ≡ ltb 0 (length (values_in windows q l))
      some_values q l = any_by_count (is_in windows q) l ∙ ap (ltb 0) (sym (length-map (filter (is_in windows q) l) (λ (r : Record). r.value) ∙ length-filter (is_in windows q) l))

      any_valued : (q : KeyedWindow) → IsReordered (values_in windows q l) (values_in windows q m) → list_any (is_in windows q) l ≡ list_any (is_in windows q) m
      any_valued q same = some_values q l ∙ ap (ltb 0) (length-reordered (values_in windows q l) (values_in windows q m) same) ∙ sym (some_values q m)

      alike : (q : KeyedWindow) → t (q.end - 1) ≡ true → IsReordered (pairs combine windows l r q) (pairs combine windows m s q)
      alike q e =
          IsReordered-map (row q) (values l r q) (values m s q)
          (reordered_pair_values combine windows (values_in windows q l) (values_in windows q m) (values_in windows q r) (values_in windows q s) (h q e) (k q e))

      each : (p : KeyedWindow → Bool) (g h : KeyedWindow → List Record) → ((q : KeyedWindow) → p q ≡ true → IsReordered (g q) (h q)) → (qs : List KeyedWindow) → IsReordered (flat_map g (filter p qs)) (flat_map h (filter p qs))
      each p g h same [] f = refl
      each p g h same (q ∷ qs) f =
          elim (p q) as (λ b. (b ≡ true → IsReordered (g q) (h q)) → sum_by f (flat_map g (cond b (q ∷ filter p qs) (filter p qs))) ≡ sum_by f (flat_map h (cond b (q ∷ filter p qs) (filter p qs)))) [
            | true ↦ λ e. IsReordered-append (g q) (h q) (flat_map g (filter p qs)) (flat_map h (filter p qs)) (e refl) (each p g h same qs) f
            | false ↦ λ e. each p g h same qs f
          ] (same q)

  -- so they are those of any lists with the same records there
  pub join_rows-same : (t : ℕ → Bool) (l m r s : List Record) → ((q : KeyedWindow) → t (q.end - 1) ≡ true → filter (is_in windows q) l ≡ filter (is_in windows q) m)
      → ((q : KeyedWindow) → t (q.end - 1) ≡ true → filter (is_in windows q) r ≡ filter (is_in windows q) s) → when t (join_rows combine windows l r) ≡ when t (join_rows combine windows m s)
  join_rows-same t l m r s h k = join_rows-agree t l m r s (λ q e. ap (map (λ (r : Record). r.value)) (h q e)) (λ q e. ap (map (λ (r : Record). r.value)) (k q e))

  -- the rows before a mark are given by the records before it
  pub join_rows-closed : (t : ℕ → Bool) (mark : ℕ) → ((x : ℕ) → t x ≡ true → x < mark) → (l r : List Record) → when t (join_rows combine windows l r) ≡ when t (join_rows combine windows (before mark l) (before mark r))
  join_rows-closed t mark low l r = join_rows-same t l (before mark l) r (before mark r) (λ q e. sym (in_closed windows mark q (closed q e) l)) (λ q e. sym (in_closed windows mark q (closed q e) r))
    where
      closed : (q : KeyedWindow) → t (q.end - 1) ≡ true → q.end ≤ mark
      closed q e = let k : q.end - 1 < mark = low (q.end - 1) e in omega arith

-- ---- the laws
pub joins-orderless : JoinsDoNotDependOnOrder
joins-orderless combine windows l m r s h k = join_rows-reordered combine windows l m r s h k

pub joins-before : ClosedJoinsDependOnEarlierRecords
joins-before combine windows mark l r = join_rows-closed combine windows (λ x. nat_lt x mark) mark (λ x h. ltb-true x mark h) l r
