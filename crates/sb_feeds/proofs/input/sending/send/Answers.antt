use Rattle.sb_feeds.proofs.InputValues.{may_follow_same}
use Rattle.sb_feeds.proofs.input.sending.send.Goals as goal

pub push-requires : goal.push-requires
push-requires g c = may_follow_same _ _ _ _ c.loop.invariant.sent c.loop.invariant.next c.requires
