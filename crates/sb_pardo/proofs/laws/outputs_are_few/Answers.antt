use Rattle.sb_pardo.proofs.Keeping.{outputs_few}
use Rattle.sb_pardo.proofs.laws.outputs_are_few.Goals as goal

pub returns : goal.returns
returns c = outputs_few
