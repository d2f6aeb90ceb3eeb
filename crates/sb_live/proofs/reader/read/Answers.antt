use Rattle.sb_live.proofs.Ends.{sees}
use Rattle.sb_live.proofs.reader.read.Goals as goal

pub enter_as-requires : goal.enter_as-requires
enter_as-requires c x = sees _ _ x
