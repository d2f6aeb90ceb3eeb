use Rattle.std.proofs.Common.{subst, sym}
use Rattle.sb_feeds.specs.RowsFed.{IsTimely}
use Rattle.sb_feeds.proofs.rows.sending.send.Goals as goal

pub push-requires : goal.push-requires
push-requires g c = subst IsTimely (sym c.loop.invariant.next) c.requires
