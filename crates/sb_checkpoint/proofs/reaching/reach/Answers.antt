use Rattle.std.proofs.Common.{arith}
use Rattle.sb_checkpoint.proofs.Transforms.{reach-more}
use Rattle.sb_checkpoint.proofs.reaching.reach.Goals as goal

pub loop-node-preserved : goal.loop-node-preserved
loop-node-preserved c = record {
  sum = omega (arith, c.loop-node.invariant.sum, c.window_size-sum.ensures.value, reach-more c.args.plan.now.steps c.loop-node.node c.kind.result.now c.kind.ensures.kind);
  bound = omega (arith, c.loop-node.invariant.bound, c.window_size-sum.ensures.bound);
}
