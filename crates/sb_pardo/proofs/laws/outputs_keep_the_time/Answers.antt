use Rattle.sb_pardo.proofs.Keeping.{outputs_keep_keys, outputs_keep_time}
use Rattle.sb_pardo.proofs.laws.outputs_keep_the_time.Goals as goal

pub returns : goal.returns
returns c = record { time = outputs_keep_time; key = outputs_keep_keys }
