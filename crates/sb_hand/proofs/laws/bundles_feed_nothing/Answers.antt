use Rattle.sb_hand.proofs.FeedingNothing.{bundles-feed_nothing}
use Rattle.sb_hand.proofs.laws.bundles_feed_nothing.Goals as goal

pub returns : goal.returns
returns c = bundles-feed_nothing
