use Rattle.rtrb.specs.Ring.{sent}
use Rattle.sb_feeds.proofs.SentSoFar.{ends_by, lack_follows, lack_told, stop_follows}
use Rattle.sb_feeds.proofs.input.sending.send_stop.Goals as goal

pub send-requires : goal.send-requires
send-requires g c =
    let (plan, size, items, f, rows, same, may) = c.requires.may in
    let all = c.in-Done.ensures.sends plan size items f rows same may in
    stop_follows plan size (sent c.send_end.new.producer) all.f all.sent c.args.stop

pub returns-in-Done-clause-sends : goal.returns-in-Done-clause-sends
returns-in-Done-clause-sends g c = λ plan size items f rows same may.
    ends_by plan size _ c.args.stop (sent c.send_end.new.producer) (sent c.send.new.producer) c.send_end.new.cutters c.send.result
    (c.in-Done.ensures.sends plan size items f rows same may) c.send.ensures.sent c.send.ensures.unsent

pub send-requires-in-NoMemory : goal.send-requires-in-NoMemory
send-requires-in-NoMemory g c =
    let (plan, size, items, f, rows, same, may) = c.requires.may in
    let part = c.in-NoMemory.ensures.sends plan size items f rows same may in
    lack_follows plan size (sent c.send_end.new.producer) part.f part.sent

pub returns-in-NoMemory-clause-sends : goal.returns-in-NoMemory-clause-sends
returns-in-NoMemory-clause-sends g c = λ plan size items f rows same may.
    lack_told plan size _ (sent c.send_end.new.producer) (sent c.send-in-NoMemory.new.producer) c.send-in-NoMemory.result
    (c.in-NoMemory.ensures.sends plan size items f rows same may) c.send-in-NoMemory.ensures.sent c.send-in-NoMemory.ensures.unsent
