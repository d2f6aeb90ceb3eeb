use Rattle.sb_hand.proofs.ShownLanes.{shows-sources}
use Rattle.sb_hand.proofs.laws.shows_sources.Goals as goal

pub returns : goal.returns
returns c = shows-sources
