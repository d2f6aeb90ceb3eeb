use Rattle.sb_run.proofs.Through.{cause_alone}
use Rattle.sb_run.proofs.running.run.Goals as goal

pub returns-then-sizes-eq1-clause-input : goal.returns-then-sizes-eq1-clause-input
returns-then-sizes-eq1-clause-input g c = cause_alone _ _ c.execute_alone.result c.execute_alone.ensures.input
