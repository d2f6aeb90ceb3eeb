use Rattle.sb_core.proofs.sound.AnyOrder.{idle-by_its_lanes}
use Rattle.sb_core.proofs.laws.idle_by_its_lanes.Goals as goal

pub returns : goal.returns
returns c = idle-by_its_lanes
