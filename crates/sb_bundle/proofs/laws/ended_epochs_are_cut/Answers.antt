use Rattle.sb_bundle.proofs.Runs.{new_ended}
use Rattle.sb_bundle.proofs.laws.ended_epochs_are_cut.Goals as goal

pub returns : goal.returns
returns c = new_ended
