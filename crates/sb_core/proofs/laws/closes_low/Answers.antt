use Rattle.sb_core.proofs.ends.AtRest.{closes-low}
use Rattle.sb_core.proofs.laws.closes_low.Goals as goal

pub returns : goal.returns
returns c = closes-low
