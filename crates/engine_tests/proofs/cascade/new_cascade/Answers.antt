use Rattle.std.proofs.Common.{true, ◌∙◌}
use Rattle.engine_tests.proofs.cascade.new_cascade.Goals as goal

pub returns-clause-plan : goal.returns-clause-plan
returns-clause-plan c = (c.in_ok-share.ensures.cascade _ 1 4 true c.in_ok-hand.ensures).plan_is ∙ c.in_ok-sum_plan.ensures

pub returns-clause-bundle : goal.returns-clause-bundle
returns-clause-bundle c = (c.in_ok-share.ensures.cascade _ 1 4 true c.in_ok-hand.ensures).bundle_is
