use Rattle.sb_live.proofs.Earlier.{never_refused}
use Rattle.sb_live.proofs.laws.rising_rows_are_never_refused.Goals as goal

pub returns : goal.returns
returns c = never_refused
