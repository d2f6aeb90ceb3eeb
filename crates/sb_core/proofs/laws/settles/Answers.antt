use Rattle.sb_core.proofs.ends.NoneLeft.{settles-all}
use Rattle.sb_core.proofs.laws.settles.Goals as goal

pub returns : goal.returns
returns c = settles-all
