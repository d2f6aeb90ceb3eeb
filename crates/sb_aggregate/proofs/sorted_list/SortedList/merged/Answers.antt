use Rattle.std.proofs.Common.{◌++◌, sym, subst}
use Rattle.std.specs.Cmp.{int_cmp_total}
use Rattle.std.specs.List.Sorted.{IsStrictlySortedBy}
use Rattle.std.specs.Ordering.{int_cmp}
use Rattle.sb_runs.proofs.records.Distinct.{distinct-sorted}
use Rattle.sb_aggregate.proofs.sorted_list.SortedList.merged.Goals as goal

pub invariant_of-result : goal.invariant_of-result
invariant_of-result c = subst (IsStrictlySortedBy int_cmp) (sym c.in_ok-values.ensures) (distinct-sorted int_cmp_total (c.deref.result.now ++ c.deref-2.result.now))
