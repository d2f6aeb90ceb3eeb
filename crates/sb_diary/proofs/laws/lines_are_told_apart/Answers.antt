use Rattle.sb_diary.proofs.LinesTold.{told_apart}
use Rattle.sb_diary.proofs.laws.lines_are_told_apart.Goals as goal

pub returns : goal.returns
returns c = told_apart
