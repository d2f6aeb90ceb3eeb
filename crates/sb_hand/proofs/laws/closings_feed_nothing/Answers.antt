use Rattle.sb_hand.proofs.FeedingNothing.{closings-feed_nothing}
use Rattle.sb_hand.proofs.laws.closings_feed_nothing.Goals as goal

pub returns : goal.returns
returns c = closings-feed_nothing
