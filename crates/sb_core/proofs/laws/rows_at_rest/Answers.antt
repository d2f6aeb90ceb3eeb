use Rattle.sb_core.proofs.ends.SoundRows.{rows-at_rest}
use Rattle.sb_core.proofs.laws.rows_at_rest.Goals as goal

pub returns : goal.returns
returns c = rows-at_rest
