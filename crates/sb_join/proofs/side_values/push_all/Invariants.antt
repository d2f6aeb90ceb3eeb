use Rattle.std.proofs.Common.{◌≡◌, ◌++◌, take}
use Rattle.sb_windowed.specs.declared.join.Side.TheVariants.{Left, Right}
use Rattle.sb_join.specs.Entries.{of_side}
use Rattle.sb_join.proofs.side_values.push_all.Given as goal

abbrev pub invariant-loop-value : goal.invariant-loop-value
invariant-loop-value l = record {
  left : l.left.items ≡ l.fn.left.items ++ of_side Left (take l.value-index l.values);
  right : l.right.items ≡ l.fn.right.items ++ of_side Right (take l.value-index l.values);
}
