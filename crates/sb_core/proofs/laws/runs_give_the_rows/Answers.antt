use Rattle.sb_core.proofs.ends.SoundRows.{runs-give_the_rows}
use Rattle.sb_core.proofs.laws.runs_give_the_rows.Goals as goal

pub returns : goal.returns
returns c = runs-give_the_rows
