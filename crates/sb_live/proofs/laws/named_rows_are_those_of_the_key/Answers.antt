use Rattle.sb_live.proofs.Named.{last_named-is}
use Rattle.sb_live.proofs.laws.named_rows_are_those_of_the_key.Goals as goal

pub returns : goal.returns
returns c = last_named-is
