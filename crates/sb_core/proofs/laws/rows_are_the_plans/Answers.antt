use Rattle.sb_core.proofs.ends.SoundRows.{rows-are_the_plans}
use Rattle.sb_core.proofs.laws.rows_are_the_plans.Goals as goal

pub returns : goal.returns
returns c = rows-are_the_plans
