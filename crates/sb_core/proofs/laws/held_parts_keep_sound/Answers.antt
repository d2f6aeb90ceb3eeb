use Rattle.sb_core.proofs.parts.PartsLaw.{held-parts_keep_sound}
use Rattle.sb_core.proofs.laws.held_parts_keep_sound.Goals as goal

pub returns : goal.returns
returns c = held-parts_keep_sound
