use Rattle.sb_lane.proofs.InTheCore.{take_first-is}
use Rattle.sb_lane.proofs.laws.takes_are_the_cores.Goals as goal

pub returns : goal.returns
returns c = λ conts bundle later h. take_first-is conts (bundle, later) h
