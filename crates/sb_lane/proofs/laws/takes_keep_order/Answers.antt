use Rattle.sb_lane.proofs.OrderKept.{take-kept}
use Rattle.sb_lane.proofs.laws.takes_keep_order.Goals as goal

pub returns : goal.returns
returns c = take-kept
