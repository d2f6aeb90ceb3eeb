use Rattle.sb_lane.proofs.InTheCore.{next_closing}
use Rattle.sb_lane.proofs.laws.closings_are_the_cores.Goals as goal

pub returns : goal.returns
returns c = next_closing
