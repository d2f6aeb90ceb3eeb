use Rattle.rtrb.specs.Ring.{sent}
use Rattle.sb_feeds.proofs.SentSoFar.{lack_follows, lack_told}
use Rattle.sb_feeds.proofs.input.sending.goes_on.Goals as goal

pub send-requires : goal.send-requires
send-requires g c =
    let (plan, size, items, cutters, sends) = c.requires.sends in
    let part = rw c.in-NoMemory.is at sends in
    lack_follows plan size (sent c.args.producer.now) part.f part.sent

pub returns-in-NoMemory-clause-sends : goal.returns-in-NoMemory-clause-sends
returns-in-NoMemory-clause-sends g c = λ plan size items cutters sends.
    rw c.in-NoMemory.is (lack_told plan size items (sent c.args.producer.now) (sent c.send.new.producer) c.send.result (rw c.in-NoMemory.is at sends) c.send.ensures.sent c.send.ensures.unsent)
