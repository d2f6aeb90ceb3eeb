use Rattle.sb_lane.proofs.OrderKept.{finish-kept}
use Rattle.sb_lane.proofs.laws.finishes_keep_order.Goals as goal

pub returns : goal.returns
returns c = finish-kept
