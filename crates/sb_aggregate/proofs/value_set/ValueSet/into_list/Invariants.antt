use Rattle.std.proofs.Common.{◌≡◌, ◌++◌}
use Rattle.sb_aggregate.proofs.value_set.ValueSet.into_list.Given as goal

abbrev pub invariant-loop-value : goal.invariant-loop-value
invariant-loop-value l = l.values.items ++ l.value-iterator ≡ l.initial.value-iterator
