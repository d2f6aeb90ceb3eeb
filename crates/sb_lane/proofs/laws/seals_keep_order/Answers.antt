use Rattle.sb_lane.proofs.OrderKept.{seal-kept}
use Rattle.sb_lane.proofs.laws.seals_keep_order.Goals as goal

pub returns : goal.returns
returns c = seal-kept
