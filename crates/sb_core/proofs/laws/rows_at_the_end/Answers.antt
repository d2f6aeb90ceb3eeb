use Rattle.sb_core.proofs.ends.SoundRows.{rows-at_the_end}
use Rattle.sb_core.proofs.laws.rows_at_the_end.Goals as goal

pub returns : goal.returns
returns c = rows-at_the_end
