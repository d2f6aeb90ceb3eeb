use Rattle.sb_lane.proofs.OrderKept.{end-kept}
use Rattle.sb_lane.proofs.laws.ends_keep_order.Goals as goal

pub returns : goal.returns
returns c = end-kept
