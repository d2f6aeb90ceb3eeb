use Rattle.sb_core.proofs.ends.SoundRows.{rows-are_all}
use Rattle.sb_core.proofs.laws.rows_are_all.Goals as goal

pub returns : goal.returns
returns c = rows-are_all
