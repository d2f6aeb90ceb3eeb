use Rattle.sb_hand.proofs.Resting.{idle-is-finished}
use Rattle.sb_hand.proofs.laws.idle_is_finished.Goals as goal

pub returns : goal.returns
returns c = idle-is-finished
