use Rattle.sb_core.proofs.sound.AnyOrder.{held-in_any_order}
use Rattle.sb_core.proofs.laws.held_in_any_order.Goals as goal

pub returns : goal.returns
returns c = held-in_any_order
