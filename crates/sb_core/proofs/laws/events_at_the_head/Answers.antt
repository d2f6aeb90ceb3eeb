use Rattle.sb_core.proofs.sound.AnyOrder.{events-at_the_head}
use Rattle.sb_core.proofs.laws.events_at_the_head.Goals as goal

pub returns : goal.returns
returns c = events-at_the_head
