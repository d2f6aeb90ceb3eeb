use Rattle.std.proofs.Common.{◌∙◌}
use Rattle.model_tests.proofs.Examples.{stepped}
use Rattle.model_tests.proofs.hand.settle_node.Goals as goal

pub loop-step-preserved : goal.loop-step-preserved
loop-step-preserved c =
    let did = c.in_ok-step.ensures in
    record {
      plan = did.plan ∙ c.loop-step.invariant.plan;
      stands = stepped c.loop-step.hand c.step.new.self c.args.node c.in_ok-step.field-0 did.steps did.plan did.bundle c.loop-step.invariant.stands;
    }
