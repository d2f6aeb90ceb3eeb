use Rattle.std.proofs.Common.{◌≤◌, ◌-◌, ℕ, List, length, ap, sym, subst, arith}
use Rattle.std.specs.List.{slice_index}
use Rattle.sb_worker.specs.hand.base.records.declared.item.Stream.TheVariants.{A}
use Rattle.sb_worker.specs.hand.base.records.declared.item.TheConstants.{END_MARK}
use Rattle.sb_worker.specs.hand.base.pipeline.Shapes.{source}
use Rattle.engine_tests.proofs.cascade.seal.Goals as goal

pub seal-requires-clause-mark : goal.seal-requires-clause-mark
seal-requires-clause-mark g c = record {
  place = record { node = 0; lane = 0 };
  goes = ap (λ p. source p A) c.requires.plan;
  bound = omega arith;
  rises = subst (λ (l : List ℕ). slice_index l (length l - 1) ≤ END_MARK) (sym c.requires.fed) (omega arith);
}
