use Rattle.sb_bundle.proofs.Runs.{new_last}
use Rattle.sb_bundle.proofs.laws.last_epoch_is_cut.Goals as goal

pub returns : goal.returns
returns c = new_last
