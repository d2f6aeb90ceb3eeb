use Rattle.sb_core.proofs.parts.PartsLaw.{parts-keep_sound}
use Rattle.sb_core.proofs.laws.parts_keep_sound.Goals as goal

pub returns : goal.returns
returns c = parts-keep_sound
