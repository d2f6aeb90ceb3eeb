use Rattle.std.proofs.Common.{◌≡◌, false, take}
use Rattle.std.specs.List.{AllByRecursion}
use Rattle.sb_checkpoint.specs.Reach.{is_session}
use Rattle.sb_checkpoint.proofs.reaching.first_session.Given as goal

abbrev pub invariant-loop-node : goal.invariant-loop-node
invariant-loop-node l = AllByRecursion (λ s. is_session s.kind ≡ false) (take l.node l.plan.steps)
