use Rattle.sb_lane.proofs.OrderKept.{place-kept}
use Rattle.sb_lane.proofs.laws.places_keep_order.Goals as goal

pub returns : goal.returns
returns c = place-kept
