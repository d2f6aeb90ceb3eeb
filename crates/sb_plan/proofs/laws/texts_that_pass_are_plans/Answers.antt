use Rattle.sb_plan.proofs.Passing.{text_plan}
use Rattle.sb_plan.proofs.laws.texts_that_pass_are_plans.Goals as goal

pub returns : goal.returns
returns c = text_plan
