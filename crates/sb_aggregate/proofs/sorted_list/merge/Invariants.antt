use Rattle.std.proofs.Common.{◌≡◌, ◌≤◌, ◌+◌, ◌-◌, ◌++◌, length, drop}
use Rattle.std.specs.Ordering.{int_cmp}
use Rattle.sb_runs.specs.records.Orders.{distinct}
use Rattle.sb_aggregate.proofs.sorted_list.merge.Given as goal

abbrev pub invariant-loop-place : goal.invariant-loop-place
invariant-loop-place l = record {
  within : l.place ≤ length l.values;
  within_more : l.place_of_more ≤ length l.more;
  so_far : l.all.items ++ distinct int_cmp (drop l.place l.values ++ drop l.place_of_more l.more) ≡ distinct int_cmp (l.values ++ l.more);
}

abbrev pub decreases-loop-place : goal.decreases-loop-place
decreases-loop-place l = length l.values - l.place + (length l.more - l.place_of_more)
