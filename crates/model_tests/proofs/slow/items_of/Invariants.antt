use Rattle.std.specs.Prelude.{All}
use Rattle.sb_hand.specs.base.records.Lines.{IsItemInRange}
use Rattle.model_tests.proofs.slow.items_of.Given as goal

abbrev pub invariant-loop-line : goal.invariant-loop-line
invariant-loop-line l = All (IsItemInRange l.keys) l.items.items
