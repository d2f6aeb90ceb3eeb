use Rattle.sb_hand.proofs.ShownLanes.{done-is-empty}
use Rattle.sb_hand.proofs.laws.done_is_empty.Goals as goal

pub returns : goal.returns
returns c = done-is-empty
