use Rattle.sb_diary.proofs.Worked.{settled}
use Rattle.sb_diary.proofs.laws.worked_is_settled.Goals as goal

pub returns : goal.returns
returns c = settled
