use Rattle.sb_checkpoint.proofs.ReadOrFaulty.{read-or_faulty}
use Rattle.sb_checkpoint.proofs.laws.checkpoints_are_read_or_faulty.Goals as goal

pub returns : goal.returns
returns c = read-or_faulty
