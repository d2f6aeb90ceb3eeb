use Rattle.sb_diary.proofs.LegalLines.{ones_came}
use Rattle.sb_diary.proofs.laws.finished_ones_came.Goals as goal

pub returns : goal.returns
returns c = ones_came
