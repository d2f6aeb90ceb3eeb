use Rattle.std.proofs.Common.{◌≤◌, length, ap, arith}
use Rattle.sb_hand.specs.base.pipeline.Shapes.{Shape}
use Rattle.model_tests.proofs.Examples.{first-lane}
use Rattle.model_tests.proofs.hand.searches.Goals as goal

pub searches-requires : goal.searches-requires
searches-requires c =
    let same = ap (λ (p : Shape). length p.steps) c.plan.ensures in
    let within : c.args.node ≤ length c.args.hand.now.plan.steps = omega (arith, same, c.transforms.ensures.value, c.if-node-transforms.false) in
    first-lane c.args.hand.now c.args.node within c.requires
