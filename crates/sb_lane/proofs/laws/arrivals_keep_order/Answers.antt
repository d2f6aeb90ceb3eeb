use Rattle.sb_lane.proofs.OrderKept.{arrival-kept}
use Rattle.sb_lane.proofs.laws.arrivals_keep_order.Goals as goal

pub returns : goal.returns
returns c = arrival-kept
