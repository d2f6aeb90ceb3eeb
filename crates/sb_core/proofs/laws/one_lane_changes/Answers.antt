use Rattle.sb_core.proofs.parts.OneLaneLaw.{one-lane_changes}
use Rattle.sb_core.proofs.laws.one_lane_changes.Goals as goal

pub returns : goal.returns
returns c = one-lane_changes
