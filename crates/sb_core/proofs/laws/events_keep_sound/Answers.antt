use Rattle.sb_core.proofs.sound.AfterSound.{events-keep_sound}
use Rattle.sb_core.proofs.laws.events_keep_sound.Goals as goal

pub returns : goal.returns
returns c = events-keep_sound
