use Rattle.std.proofs.Common.{refl}
use Rattle.sb_record.specs.FrontReading.{usual_line}
use Rattle.sb_record.proofs.intake.Intake.accept_usual.Goals as goal

pub returns-clause-accepted : goal.returns-clause-accepted
returns-clause-accepted c = (c.in-Some.ensures.exact (usual_line c.in-Some.record)).0 refl
