use Rattle.sb_bundle.proofs.Runs.{new_keeps}
use Rattle.sb_bundle.proofs.laws.no_record_is_lost.Goals as goal

pub returns : goal.returns
returns c = new_keeps
