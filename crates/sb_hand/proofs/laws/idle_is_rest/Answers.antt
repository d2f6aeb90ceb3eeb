use Rattle.sb_hand.proofs.Resting.{idle-is-rest}
use Rattle.sb_hand.proofs.laws.idle_is_rest.Goals as goal

pub returns : goal.returns
returns c = idle-is-rest
