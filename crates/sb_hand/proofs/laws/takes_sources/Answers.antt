use Rattle.sb_hand.proofs.ShownLanes.{takes-sources}
use Rattle.sb_hand.proofs.laws.takes_sources.Goals as goal

pub returns : goal.returns
returns c = takes-sources
