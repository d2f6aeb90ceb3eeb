use Rattle.sb_pipeline.proofs.Steps.{still_plan}
use Rattle.sb_pipeline.proofs.plan.Plan.with_late.Goals as goal

pub invariant_of-result : goal.invariant_of-result
invariant_of-result c = still_plan _ _ _ c.self.invariant
