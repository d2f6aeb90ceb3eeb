use Rattle.sb_checkpoint.proofs.Pieces.{texts-read_back}
use Rattle.sb_checkpoint.proofs.laws.saved_texts_are_read_back.Goals as goal

pub returns : goal.returns
returns c = texts-read_back
