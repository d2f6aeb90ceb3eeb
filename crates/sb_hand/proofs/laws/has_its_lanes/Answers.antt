use Rattle.sb_hand.proofs.ShownLanes.{has-its_lanes}
use Rattle.sb_hand.proofs.laws.has_its_lanes.Goals as goal

pub returns : goal.returns
returns c = has-its_lanes
