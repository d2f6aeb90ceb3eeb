-- The rows before a time come before all others.
use Rattle.std.proofs.Common.{◌≡◌, ℕ, ◌+◌, ◌<◌, ◌≤◌, false, List, [], ◌∷◌, ◌++◌, sym, refl, ap, ◌∙◌, arith}
use Rattle.std.specs.Prelude.{nat_lt, not}
use Rattle.std.specs.List.{AllByRecursion}
use Rattle.std.specs.Ordering.{is_lt, int_cmp, ordering_then}
use Rattle.std.specs.Cmp.{nat_cmp_is}
use Rattle.std.specs.declared.cmp.Ordering.TheVariants.{Greater}
use Rattle.std.proofs.lemmas.Bool.Decides.{nat_tests}
use Rattle.std.proofs.lemmas.List.Filters.{sum_by-filter_both}
use Rattle.std.proofs.lemmas.List.Sums.{sum_by-append}
use Rattle.sb_record.specs.declared.item.Record.{Record}
use Rattle.sb_record.specs.Keys.{key_cmp}
use Rattle.sb_record.specs.Orders.{IsAscending}
use Rattle.sb_record.specs.Reorderings.{IsReordered}
use Rattle.sb_record.specs.Records.{record_cmp, sorted_records, before, at_least}
use Rattle.sb_record.proofs.Elements.{every, All-join, All-anything, All-passed, filter_of_filter}
use Rattle.sb_record.proofs.Sorting.{IsReordered-in_order, All-in_order, records_total, in_order-ascending, sorted-unique}

-- a record of a later time is not less
not_less : (w : ℕ) (x y : Record) → x.time < w → w ≤ y.time → is_lt (record_cmp y x) ≡ false
not_less w x y a b = ap (λ o. is_lt (ordering_then o (ordering_then (key_cmp y.key x.key) (int_cmp y.value x.value)))) (sym (nat_cmp_is y.time x.time Greater (omega arith)))

pub ascending-join : (w : ℕ) (xs ys : List Record) → IsAscending record_cmp xs → IsAscending record_cmp ys → AllByRecursion (λ r. r.time < w) xs → AllByRecursion (λ r. w ≤ r.time) ys → IsAscending record_cmp (xs ++ ys)
ascending-join w [] ys a b low high = b
ascending-join w (x ∷ xs) ys a b low high =
    (All-join (λ y. is_lt (record_cmp y x) ≡ false) xs ys a.0 (every (λ y h. not_less w x y low.0 h) ys high), ascending-join w xs ys a.1 b low.1 high)

pub before-low : (w : ℕ) (l : List Record) → AllByRecursion (λ r. r.time < w) (before w l)
before-low w l = All-passed (λ _. Unit {0}) (λ r. r.time < w) (λ r. nat_lt r.time w) (λ r _ h. grind (arith, nat_tests)) l (All-anything l)

pub at_least-high : (w : ℕ) (l : List Record) → AllByRecursion (λ r. w ≤ r.time) (at_least w l)
at_least-high w l = All-passed (λ _. Unit {0}) (λ r. w ≤ r.time) (λ r. not (nat_lt r.time w)) (λ r _ h. grind (arith, nat_tests)) l (All-anything l)

-- sorting goes on from the earlier records to the others
pub sorted-split : (w : ℕ) (l : List Record) → sorted_records l ≡ sorted_records (before w l) ++ sorted_records (at_least w l)
sorted-split w l = sym (sorted-unique (sorted_records (before w l) ++ sorted_records (at_least w l)) l up same)
  where
    up : IsAscending record_cmp (sorted_records (before w l) ++ sorted_records (at_least w l))
    up =
        ascending-join w (sorted_records (before w l)) (sorted_records (at_least w l))
        (in_order-ascending records_total (before w l)) (in_order-ascending records_total (at_least w l))
        (All-in_order (λ r. r.time < w) record_cmp (before w l) (before-low w l)) (All-in_order (λ r. w ≤ r.time) record_cmp (at_least w l) (at_least-high w l))

    same : IsReordered (sorted_records (before w l) ++ sorted_records (at_least w l)) l
    same f =
        sum_by-append f (sorted_records (before w l)) (sorted_records (at_least w l))
        ∙ (λ i. IsReordered-in_order record_cmp (before w l) f i + IsReordered-in_order record_cmp (at_least w l) f i)
        ∙ sum_by-filter_both (λ r. nat_lt r.time w) (λ r. not (nat_lt r.time w)) (λ r. refl) f l

-- what is before an earlier time is before a later one too
pub before-before : (v w : ℕ) (l : List Record) → v ≤ w → before v (before w l) ≡ before v l
before-before v w l le = filter_of_filter (λ r. nat_lt r.time v) (λ r. nat_lt r.time w) (λ r h. grind (arith, nat_tests)) l

-- the sorted records before a time begin those before a later time
pub sorted_before-front : (v w : ℕ) (l : List Record) → v ≤ w → sorted_records (before w l) ≡ sorted_records (before v l) ++ sorted_records (at_least v (before w l))
sorted_before-front v w l le = sorted-split v (before w l) ∙ ap (λ m. sorted_records m ++ sorted_records (at_least v (before w l))) (before-before v w l le)
