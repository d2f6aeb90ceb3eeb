use Rattle.std.proofs.Common.{ap, below_more, length, arith}
use Rattle.sb_feeds.specs.base.pipeline.Shapes.{Shape}
use Rattle.sb_hand.specs.Stepping.{IsIdle}
use Rattle.sb_alone.specs.SettingLaws.{same_then}
use Rattle.sb_alone.proofs.Settling.{still-idle}
use Rattle.sb_alone.proofs.working.settle.Goals as goal

pub nodes-preserved : goal.nodes-preserved
nodes-preserved c =
    let done = c.in_ok-settle_node.ensures in
    record {
      same = same_then c.args.hand.now c.nodes.hand c.settle_node.new.hand c.nodes.invariant.same done.same;
      whole = λ f rows w. done.whole f rows (c.nodes.invariant.whole f rows w);
      idle = below_more _ _ (λ k lt. still-idle k c.nodes.hand.nodes c.settle_node.new.hand.nodes (done.earlier k lt) (c.nodes.invariant.idle k lt)) done.idle;
    }

pub returns-in_ok-settle_node-clause-idle : goal.returns-in_ok-settle_node-clause-idle
returns-in_ok-settle_node-clause-idle c = λ k le.
    let done = c.in_ok-settle_node.ensures in
    let same_plan = ap (λ (p : Shape). length p.steps) c.plan.ensures in
    below_more (λ k. IsIdle k c.settle_node.new.hand.nodes) c.nodes.node (λ k lt. still-idle k c.nodes.hand.nodes c.settle_node.new.hand.nodes (done.earlier k lt) (c.nodes.invariant.idle k lt)) done.idle k (omega (arith, le, same_plan, c.transforms-sink.ensures.value))
