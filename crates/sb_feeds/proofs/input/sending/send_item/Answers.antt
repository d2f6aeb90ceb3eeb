use Rattle.std.proofs.Common.{refl}
use Rattle.rtrb.specs.Ring.{sent}
use Rattle.sb_feeds.proofs.SentSoFar.{quiet_lost_sent, quiet_sent}
use Rattle.sb_feeds.proofs.input.sending.send_item.Goals as goal

pub returns-in-Rec-clause-sends : goal.returns-in-Rec-clause-sends
returns-in-Rec-clause-sends g c = rw c.in-Rec.is c.send_record.ensures.sends

pub returns-in-Mark-clause-sends : goal.returns-in-Mark-clause-sends
returns-in-Mark-clause-sends g c = rw c.in-Mark.is c.send_mark.ensures.sends

pub returns-in-Skip-clause-sends : goal.returns-in-Skip-clause-sends
returns-in-Skip-clause-sends g c = λ plan size. rw c.in-Skip.is (quiet_sent plan size _ c.args.cutters.now (sent c.args.producer.now) refl refl refl refl)

pub returns-in-Ok-clause-sends : goal.returns-in-Ok-clause-sends
returns-in-Ok-clause-sends g c = λ plan size. rw c.in-Late.is (quiet_sent plan size _ c.args.cutters.now (sent c.args.producer.now) refl refl refl refl)

pub returns-in-Err-clause-sends : goal.returns-in-Err-clause-sends
returns-in-Err-clause-sends g c = λ plan size. rw c.in-Late.is (quiet_lost_sent plan size _ c.args.cutters.now (sent c.args.producer.now) refl refl refl refl)
