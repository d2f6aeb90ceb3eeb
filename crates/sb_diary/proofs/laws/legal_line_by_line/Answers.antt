use Rattle.sb_diary.proofs.LegalLines.{line_by_line}
use Rattle.sb_diary.proofs.laws.legal_line_by_line.Goals as goal

pub returns : goal.returns
returns c = line_by_line
