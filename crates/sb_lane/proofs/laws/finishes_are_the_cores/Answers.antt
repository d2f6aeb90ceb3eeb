use Rattle.sb_lane.proofs.InTheCore.{finish_first-is}
use Rattle.sb_lane.proofs.laws.finishes_are_the_cores.Goals as goal

pub returns : goal.returns
returns c = finish_first-is
