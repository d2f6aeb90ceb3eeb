use Rattle.sb_lane.proofs.OrderKept.{begin-kept}
use Rattle.sb_lane.proofs.laws.begins_keep_order.Goals as goal

pub returns : goal.returns
returns c = begin-kept
