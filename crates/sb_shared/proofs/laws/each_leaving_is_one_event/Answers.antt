use Rattle.sb_shared.proofs.leavings.Leaving.{leaves_to}
use Rattle.sb_shared.proofs.laws.each_leaving_is_one_event.Goals as goal

pub returns : goal.returns
returns c = leaves_to
