use Rattle.sb_shared.proofs.lives.HeldOnce.{held_once}
use Rattle.sb_shared.proofs.laws.each_is_held_once.Goals as goal

pub returns : goal.returns
returns c = held_once
