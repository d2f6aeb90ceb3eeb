use Rattle.sb_diary.proofs.Worked.{refused}
use Rattle.sb_diary.proofs.laws.wrong_lines_are_refused.Goals as goal

pub returns : goal.returns
returns c = refused
