-- Sets to which values are added.
use Rattle.std.proofs.Common.{◌≡◌, ℤ, List, ◌++◌, sym, ◌∙◌}
use Rattle.std.specs.Cmp.{int_cmp_total}
use Rattle.std.specs.BTreeSet.{BTreeSet, InsertsAll, IsFromIterResult}
use Rattle.std.specs.Ordering.{int_cmp, eq_by_cmp}
use Rattle.std.specs.List.Sorted.{IsStrictlySortedBy}
use Rattle.std.proofs.lemmas.List.Folds.{list_any-append}
use Rattle.std.proofs.lemmas.Map.Lookups.{btree_set_from_contains, exact_signed}
use Rattle.sb_runs.specs.records.Orders.{distinct}
use Rattle.sb_runs.proofs.records.Distinct.{distinct-sorted, any_distinct}

-- a set with values more has the different ones of its own and of those
pub distinct-inserted : (s n : BTreeSet ℤ) (xs : List ℤ) → InsertsAll int_cmp s xs n → n.keys ≡ distinct int_cmp (s.keys ++ xs)
distinct-inserted s n xs (has, up) =
    btree_set_from_contains int_cmp_total n (record { keys = distinct int_cmp (s.keys ++ xs) }) up (distinct-sorted int_cmp_total (s.keys ++ xs))
    (λ q. has q ∙ sym (list_any-append (eq_by_cmp int_cmp q) s.keys xs) ∙ sym (any_distinct int_cmp_total exact_signed q (s.keys ++ xs))) exact_signed

-- a set that is made of a sorted list
pub keys-collected : (n : BTreeSet ℤ) (xs : List ℤ) → IsStrictlySortedBy int_cmp xs → IsFromIterResult int_cmp xs n → n.keys ≡ xs
keys-collected n xs up (has, ordered) = btree_set_from_contains int_cmp_total n (record { keys = xs }) ordered up has exact_signed
