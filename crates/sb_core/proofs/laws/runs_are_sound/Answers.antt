use Rattle.sb_core.proofs.sound.FirstMoment.{runs-are_sound}
use Rattle.sb_core.proofs.laws.runs_are_sound.Goals as goal

pub returns : goal.returns
returns c = runs-are_sound
