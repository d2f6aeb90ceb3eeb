-- What is gathered in the windows whose rows have some times, and the rows that a closing gives of them.
use Rattle.std.proofs.Common.{◌≡◌, ℕ, ℤ, ◌+◌, ◌-◌, ◌≤◌, ◌<◌, Bool, true, false, not, cond, List, [], ◌∷◌, ◌++◌, subst, sym, refl, ap, ◌∙◌, arith, append-nil}
use Rattle.std.specs.Prelude.{◌&&◌, nat_lt, sum_by}
use Rattle.std.specs.List.{list_any, AllByRecursion}
use Rattle.std.proofs.lemmas.Bool.{ltb-true, ltb-false, le-ltb, and_parts, false_from_ne_true}
use Rattle.std.proofs.lemmas.List.Elements.{filter-append}
use Rattle.std.proofs.lemmas.List.Filters.{sum_by-filter_both}
use Rattle.std.proofs.lemmas.List.Sums.{sum_by-append}
use Rattle.sb_record.specs.declared.item.Record.{Record}
use Rattle.sb_record.specs.Elements.{all_records}
use Rattle.sb_record.specs.Orders.{IsAscending}
use Rattle.sb_record.specs.Records.{record_cmp, sorted_records, before, at_least}
use Rattle.sb_record.proofs.Elements.{All-any, All-anything, All-passed, filter_of_filter}
use Rattle.sb_record.proofs.OnLanes.{All-all_records}
use Rattle.sb_record.proofs.Sorting.{records_total, in_order-ascending, sorted-unique, IsReordered-in_order, All-in_order}
use Rattle.sb_window.specs.declared.keyed_window.KeyedWindow.{KeyedWindow}
use Rattle.sb_window.specs.Spacing.{Spacing}
use Rattle.sb_window.specs.Windows.{is_in}
use Rattle.sb_window.specs.Aggregations.{rows_by}
use Rattle.sb_window.specs.Groupings.{Closes}
use Rattle.sb_window.proofs.Rows.{end-of, when, rows_by-closed}

-- the times from one mark on and below another
abbrev pub is_between : ℕ → ℕ → ℕ → Bool
is_between closed mark t = not (nat_lt t closed) && nat_lt t mark

-- no record from a mark on lies in a window whose rows are below the mark
pub none_late : (windows : Spacing) (mark : ℕ) (q : KeyedWindow) → q.end - 1 < mark → (l : List Record) → AllByRecursion (λ r. mark ≤ r.time) l → list_any (is_in windows q) l ≡ false
none_late windows mark q low l late = false_from_ne_true (list_any (is_in windows q) l)
    (λ some. let k : mark ≤ q.end - 1 = All-any (λ r. mark ≤ r.time) (mark ≤ q.end - 1) (is_in windows q) (λ r from is. let e = end-of windows q r is in omega (arith, e.0, from)) l late some in omega (arith, k, low))

-- ---- a closing
passes_from : (mark t : ℕ) → not (nat_lt t mark) ≡ true → mark ≤ t
passes_from mark t h = by_case (nat_lt t mark) refl h
  where
    by_case : (b : Bool) → nat_lt t mark ≡ b → not b ≡ true → mark ≤ t
    by_case true e h = cc
    by_case false e h = ltb-false t mark e

from_passes : (mark t : ℕ) → mark ≤ t → not (nat_lt t mark) ≡ true
from_passes mark t h = ap not (le-ltb t mark h)

before-from : (mark : ℕ) (l : List Record) → AllByRecursion (λ r. mark ≤ r.time) l → before mark l ≡ []
before-from mark [] late = refl
before-from mark (r ∷ l) late = ap (λ b. cond b (r ∷ before mark l) (before mark l)) (le-ltb r.time mark late.0) ∙ before-from mark l late.1

between : (closed mark : ℕ) (l : List Record) → before mark (at_least closed l) ≡ when (is_between closed mark) l
between closed mark [] = refl
between closed mark (r ∷ l) =
    elim (not (nat_lt r.time closed)) as (λ b. before mark (cond b (r ∷ at_least closed l) (at_least closed l)) ≡ cond (b && nat_lt r.time mark) (r ∷ when (is_between closed mark) l) (when (is_between closed mark) l)) [
      | true ↦ ap (λ m. cond (nat_lt r.time mark) (r ∷ m) m) (between closed mark l)
      | false ↦ between closed mark l
    ]

module _ (values : List ℤ → List ℤ) (windows : Spacing) (closed mark : ℕ) (within : closed ≤ mark) (absorbed : List Record) where
  -- what comes from the mark on changes no row below it
  rows-final : (l : List Record) → AllByRecursion (λ r. mark ≤ r.time) l → when (is_between closed mark) (rows_by values windows (absorbed ++ l)) ≡ when (is_between closed mark) (rows_by values windows absorbed)
  rows-final l late =
      rows_by-closed values windows (is_between closed mark) mark low (absorbed ++ l)
      ∙ ap (λ m. when (is_between closed mark) (rows_by values windows m)) (filter-append (λ r. nat_lt r.time mark) absorbed l ∙ ap (λ m. before mark absorbed ++ m) (before-from mark l late) ∙ append-nil (before mark absorbed))
      ∙ sym (rows_by-closed values windows (is_between closed mark) mark low absorbed)
    where
      low : (x : ℕ) → is_between closed mark x ≡ true → x < mark
      low x h = ltb-true x mark (and_parts (not (nat_lt x closed)) (nat_lt x mark) h).1

  -- the rows between the marks, in order, are a closing
  pub closes-between : (rows : List Record) → rows ≡ sorted_records (when (is_between closed mark) (rows_by values windows absorbed))
      → Closes mark (λ l. at_least closed (rows_by values windows (absorbed ++ all_records l))) rows (λ l. at_least mark (rows_by values windows (absorbed ++ all_records l)))
  closes-between rows are = record {
    in_order = sorted-unique rows rows (subst (λ (l : List Record). IsAscending record_cmp l) (sym are) (in_order-ascending records_total (when (is_between closed mark) (rows_by values windows absorbed)))) (λ f. refl);
    low = subst (λ (l : List Record). AllByRecursion (λ r. r.time < mark) l) (sym are)
        (All-in_order (λ r. r.time < mark) record_cmp (when (is_between closed mark) (rows_by values windows absorbed))
        (All-passed (λ r. Unit {0}) (λ r. r.time < mark) (λ r. is_between closed mark r.time) (λ r _ h. ltb-true r.time mark (and_parts (not (nat_lt r.time closed)) (nat_lt r.time mark) h).1) (rows_by values windows absorbed) (All-anything (rows_by values windows absorbed))));
    same = λ l late f.
        let now : sum_by f (before mark (at_least closed (rows_by values windows (absorbed ++ all_records l)))) ≡ sum_by f rows =
        ap (sum_by f) (between closed mark (rows_by values windows (absorbed ++ all_records l)) ∙ rows-final (all_records l) (All-all_records (λ r. mark ≤ r.time) l late))
        ∙ sym (ap (sum_by f) are ∙ IsReordered-in_order record_cmp (when (is_between closed mark) (rows_by values windows absorbed)) f) in
        let later : at_least mark (at_least closed (rows_by values windows (absorbed ++ all_records l))) ≡ at_least mark (rows_by values windows (absorbed ++ all_records l)) =
        filter_of_filter (λ r. not (nat_lt r.time mark)) (λ r. not (nat_lt r.time closed)) (λ r h. let k : mark ≤ r.time = passes_from mark r.time h in from_passes closed r.time (omega arith)) (rows_by values windows (absorbed ++ all_records l)) in
        sym (sum_by-filter_both (λ r. nat_lt r.time mark) (λ r. not (nat_lt r.time mark)) (λ r. refl) f (at_least closed (rows_by values windows (absorbed ++ all_records l))))
        ∙ (λ i. now i + sum_by f (later i))
        ∙ sym (sum_by-append f rows (at_least mark (rows_by values windows (absorbed ++ all_records l))));
    high = λ l late.
        All-passed (λ r. Unit {0}) (λ r. mark ≤ r.time) (λ r. not (nat_lt r.time mark)) (λ r _ h. passes_from mark r.time h) (rows_by values windows (absorbed ++ all_records l)) (All-anything (rows_by values windows (absorbed ++ all_records l)));
  }
