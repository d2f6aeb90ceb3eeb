-- Sorted records rise.
use Rattle.std.proofs.Common.{◌≡◌, ℕ, ◌≤◌, Bool, true, false, true≢false, cond, List, [], ◌∷◌, ◌++◌, refl, sym, ap, subst, ◌∙◌, arith}
use Rattle.std.specs.Prelude.{nat_lt, ◌==◌}
use Rattle.std.specs.List.{AllByRecursion}
use Rattle.std.specs.Ordering.{is_lt, int_cmp, ordering_then}
use Rattle.std.specs.declared.cmp.Ordering.TheVariants.{Less, Equal, Greater}
use Rattle.std.proofs.lemmas.Bool.Decides.{nat_tests}
use Rattle.sb_emit.specs.records.declared.item.Record.{Record}
use Rattle.sb_emit.specs.records.Keys.{key_cmp}
use Rattle.sb_emit.specs.records.Orders.{IsAscending}
use Rattle.sb_emit.specs.records.Records.{record_cmp, sorted_records}
use Rattle.sb_emit.proofs.records.Elements.{every, All-anything}
use Rattle.sb_emit.proofs.records.Sorting.{in_order-ascending, records_total}
use Rattle.sb_live.specs.Rising.{RiseFrom}
use Rattle.sb_live.specs.ShowLaws.{rise_first}

-- a record that does not stand before another is not earlier
not_earlier : (x y : Record) → is_lt (record_cmp y x) ≡ false → x.time ≤ y.time
not_earlier x y h = by_case (nat_lt y.time x.time) refl
  where
    by_case : (b : Bool) → nat_lt y.time x.time ≡ b → x.time ≤ y.time
    by_case true e = absurd (true≢false (sym (ap (λ b. is_lt (ordering_then (cond b Less (cond (y.time == x.time) Equal Greater)) (ordering_then (key_cmp y.key x.key) (int_cmp y.value x.value)))) e) ∙ h))
    by_case false e = grind (arith, nat_tests)

rise_ascending : (floor : ℕ) (rows : List Record) → AllByRecursion (λ r. floor ≤ r.time) rows → IsAscending record_cmp rows → RiseFrom floor rows
rise_ascending floor [] low up = tt
rise_ascending floor (r ∷ rows) low up = (low.0, rise_ascending r.time rows (every (not_earlier r) rows up.0) up.1)

pub sorted_rise : (records : List Record) → RiseFrom 0 (sorted_records records)
sorted_rise records = rise_ascending 0 (sorted_records records) (every (λ r _. omega arith) (sorted_records records) (All-anything (sorted_records records))) (in_order-ascending records_total records)

-- the first of sorted records rise
pub first_sorted_rise : (records rows rest : List Record) → sorted_records records ≡ rows ++ rest → RiseFrom 0 rows
first_sorted_rise records rows rest are = rise_first 0 rows rest (subst (RiseFrom 0) are (sorted_rise records))
