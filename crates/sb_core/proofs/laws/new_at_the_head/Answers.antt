use Rattle.sb_core.proofs.sound.AnyOrder.{new-at_the_head}
use Rattle.sb_core.proofs.laws.new_at_the_head.Goals as goal

pub returns : goal.returns
returns c = new-at_the_head
