use Rattle.sb_checkpoint.proofs.ReadItems.{read-accepted}
use Rattle.sb_checkpoint.proofs.laws.read_items_are_accepted.Goals as goal

pub returns : goal.returns
returns c = read-accepted
