use Rattle.std.proofs.Common.{◌≡◌, ◌<◌, ℕ, Some, slice_get}
use Rattle.sb_pipeline.specs.declared.transform.Step.{Step}
use Rattle.sb_pipeline.proofs.validity.send_further.Given as goal

abbrev pub invariant-loop-node : goal.invariant-loop-node
invariant-loop-node l = (k : ℕ) (s : Step) → k < l.node → slice_get l.steps k ≡ Some s → k < s.down.node
