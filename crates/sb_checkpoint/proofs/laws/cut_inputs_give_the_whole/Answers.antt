use Rattle.sb_checkpoint.proofs.CutInputs.{cut-inputs}
use Rattle.sb_checkpoint.proofs.laws.cut_inputs_give_the_whole.Goals as goal

pub returns : goal.returns
returns c = cut-inputs
