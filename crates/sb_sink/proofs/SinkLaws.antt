-- The laws of the sink.
use Rattle.std.proofs.Common.{◌≡◌, ℕ, ◌+◌, ◌≤◌, ◌<◌, not, List, ◌++◌, length, subst, sym, refl, ap, ◌∙◌, arith}
use Rattle.std.specs.Prelude.{nat_lt}
use Rattle.std.specs.List.{sum_by, AllByRecursion}
use Rattle.std.proofs.lemmas.Bool.{ltb-true}
use Rattle.std.proofs.lemmas.List.{map-append}
use Rattle.std.proofs.lemmas.List.Filters.{sum_by-filter_both, length-filter_both}
use Rattle.std.proofs.lemmas.List.Sums.{sum_by-append}
use Rattle.sb_window.specs.records.declared.element.KeptRec.{KeptRec}
use Rattle.sb_window.specs.records.declared.item.Record.{Record}
use Rattle.sb_window.specs.records.Elements.{all_records}
use Rattle.sb_window.specs.records.Orders.{IsAscending}
use Rattle.sb_window.specs.records.Records.{record_cmp, sorted_records, before, at_least}
use Rattle.sb_window.specs.records.Reorderings.{IsReordered}
use Rattle.sb_window.proofs.records.Elements.{All-join, All-anything, All-passed}
use Rattle.sb_window.proofs.records.OnLanes.{All-all_records}
use Rattle.sb_window.proofs.records.Sorting.{records_total, in_order-ascending, sorted-unique, All-in_order, IsReordered-in_order}
use Rattle.sb_window.specs.Groupings.{IsFrom, Adds, Closes}
use Rattle.sb_window.proofs.Marks.{All-at_least, length-reordered}
use Rattle.sb_sink.specs.Sinks.{SinkState, gives, StandsFor}

pub adds : (s t : SinkState) (part : List Record) → IsReordered t.kept (s.kept ++ part) → (mark : ℕ) (es : List KeptRec) → StandsFor part es → IsFrom mark es → Adds mark (gives s) (gives t) es
adds s t part grown mark es stands from l late f =
    sum_by-append f t.kept (all_records l)
    ∙ (λ i. (grown f ∙ sum_by-append f s.kept part ∙ ap (λ n. sum_by f s.kept + n) (sym (stands f))) i + sum_by f (all_records l))
    ∙ assoc (sum_by f s.kept) (sum_by f (all_records es)) (sum_by f (all_records l))
    ∙ ap (λ n. sum_by f s.kept + n) (sym (ap (sum_by f) (map-append (λ (e : KeptRec). e.rec) es l) ∙ sum_by-append f (all_records es) (all_records l)))
    ∙ sym (sum_by-append f s.kept (all_records (es ++ l)))
  where
    assoc : (a b c : ℕ) → (a + b) + c ≡ a + (b + c)
    assoc a b c = omega arith

pub closes : (s t : SinkState) (mark : ℕ) (rows : List Record) → rows ≡ sorted_records (before mark s.kept) → t.kept ≡ at_least mark s.kept → Closes mark (gives s) rows (gives t)
closes s t mark rows rows_are kept_is = record {
  in_order = sorted-unique rows rows (subst (λ (l : List Record). IsAscending record_cmp l) (sym rows_are) (in_order-ascending records_total (before mark s.kept))) (λ f. refl);
  low = subst (λ (l : List Record). AllByRecursion (λ r. r.time < mark) l) (sym rows_are)
      (All-in_order (λ r. r.time < mark) record_cmp (before mark s.kept) (All-passed (λ r. Unit {0}) (λ r. r.time < mark) (λ r. nat_lt r.time mark) (λ r h below. ltb-true r.time mark below) s.kept (All-anything s.kept)));
  same = λ l late f.
      sum_by-append f s.kept (all_records l)
      ∙ ap (λ n. n + sum_by f (all_records l)) (sym (sum_by-filter_both (λ r. nat_lt r.time mark) (λ r. not (nat_lt r.time mark)) (λ r. refl) f s.kept)
      ∙ (λ i. sym (ap (sum_by f) rows_are ∙ IsReordered-in_order record_cmp (before mark s.kept) f) i + sum_by f (sym kept_is i)))
      ∙ assoc (sum_by f rows) (sum_by f t.kept) (sum_by f (all_records l))
      ∙ sym (sum_by-append f rows (gives t l) ∙ ap (λ n. sum_by f rows + n) (sum_by-append f t.kept (all_records l)));
  high = λ l late. All-join (λ r. mark ≤ r.time) t.kept (all_records l) (subst (λ (x : List Record). AllByRecursion (λ r. mark ≤ r.time) x) (sym kept_is) (All-at_least mark s.kept)) (All-all_records (λ r. mark ≤ r.time) l late);
}
  where
    assoc : (a b c : ℕ) → (a + b) + c ≡ a + (b + c)
    assoc a b c = omega arith

-- what comes out and what stays are all that was there
pub lengths : (kept later rows : List Record) (mark : ℕ) → rows ≡ sorted_records (before mark kept) → later ≡ at_least mark kept → length rows + length later ≡ length kept
lengths kept later rows mark rows_are later_is =
    (λ i. (ap length rows_are ∙ length-reordered (sorted_records (before mark kept)) (before mark kept) (IsReordered-in_order record_cmp (before mark kept))) i + length (later_is i))
    ∙ length-filter_both (λ r. nat_lt r.time mark) (λ r. not (nat_lt r.time mark)) (λ r. refl) kept
