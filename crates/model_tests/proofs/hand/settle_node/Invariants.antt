use Rattle.std.proofs.Common.{◌≡◌, []}
use Rattle.sb_hand.specs.core.declared.moment.Moment.{Moment}
use Rattle.sb_hand.specs.Hands.{Shows}
use Rattle.model_tests.proofs.hand.settle_node.Given as goal

abbrev pub invariant-loop-step : goal.invariant-loop-step
invariant-loop-step l = record {
  plan : l.hand.plan ≡ l.initial.hand.plan;
  stands : (m : Moment) × Shows l.hand [] m;
}
