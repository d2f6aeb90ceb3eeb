use Rattle.sb_core.proofs.parts.OneLaneLaw.{held-one_lane_changes}
use Rattle.sb_core.proofs.laws.held_one_lane_changes.Goals as goal

pub returns : goal.returns
returns c = held-one_lane_changes
