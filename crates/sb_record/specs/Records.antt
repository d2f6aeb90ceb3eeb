-- Records in order.
use Rattle.std.specs.Prelude.{ℕ, List, count_by, filter, nat_lt, not}
use Rattle.std.specs.Ordering.{nat_cmp, int_cmp, ordering_then, eq_by_cmp}
use Rattle.std.specs.declared.cmp.Ordering.{Ordering}
use Rattle.sb_record.specs.declared.item.Record.{Record}
use Rattle.sb_record.specs.Keys.{key_cmp}
use Rattle.sb_record.specs.Orders.{in_order}

-- by time, then key, then value
abbrev pub record_cmp : Record → Record → Ordering
record_cmp a b = ordering_then (nat_cmp a.time b.time) (ordering_then (key_cmp a.key b.key) (int_cmp a.value b.value))

-- how often the list holds the record
abbrev pub count_of : Record → List Record → ℕ
count_of r records = count_by (eq_by_cmp record_cmp r) records

-- the records sorted
abbrev pub sorted_records : List Record → List Record
sorted_records records = in_order record_cmp records

-- the records with a time below w
abbrev pub before : ℕ → List Record → List Record
before w records = filter (λ r. nat_lt r.time w) records

-- the records with a time from w on
abbrev pub at_least : ℕ → List Record → List Record
at_least w records = filter (λ r. not (nat_lt r.time w)) records
