use Rattle.std.proofs.Common.{◌≡◌, drop}
use Rattle.toml.specs.View.{items_view}
use Rattle.sb_plan.specs.Kinds.{integers_of}
use Rattle.sb_plan.proofs.Integers.{with_rest}
use Rattle.sb_plan.proofs.addends.integers_of.Given as goal

abbrev pub invariant-loop-value : goal.invariant-loop-value
invariant-loop-value l = integers_of (items_view l.array.items) ≡ with_rest l.integers.items (items_view (drop l.value-index l.array.items))
