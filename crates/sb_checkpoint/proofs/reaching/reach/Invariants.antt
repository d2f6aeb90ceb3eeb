use Rattle.std.proofs.Common.{◌≡◌, ◌≤◌, ◌*◌, take}
use Rattle.std.specs.List.{sum_by}
use Rattle.sb_checkpoint.specs.Reach.{size_in}
use Rattle.sb_checkpoint.proofs.reaching.reach.Given as goal

abbrev pub invariant-loop-node : goal.invariant-loop-node
invariant-loop-node l = record {
  sum : l.sum ≡ sum_by (λ s. size_in s.kind) (take l.node l.plan.steps);
  bound : l.sum ≤ l.node * 1000000000000;
}
