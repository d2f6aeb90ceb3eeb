use Rattle.rtrb.specs.Ring.{sent}
use Rattle.sb_feeds.specs.declared.input.fed.InputFed.TheVariants as fed
use Rattle.sb_feeds.proofs.SentSoFar.{last_may_come, last_unsent, mark_follows, mark_follows_then, mark_sent, mark_sent_then, mark_unsent, mark_unsent_then, may_follow_sent, sends_by}
use Rattle.sb_feeds.proofs.input.sending.send_mark.Goals as goal

pub send-requires : goal.send-requires
send-requires g c =
    let (plan, size, items, f, rows, may) = c.requires.may in
    may_follow_sent plan size (sent c.args.producer.now) f may.stand.0 (fed.Bundle c.args.stream c.in-Some.bundle)
    (last_may_come plan size c.args.stream c.args.mark c.args.cutters.now (sent c.args.producer.now) items f rows may c.mark.result c.in-Some.bundle c.in-Some.is c.mark.ensures.given (rw c.in-Some.is c.in-Some.ensures.sound))

pub send-requires-in-Done : goal.send-requires-in-Done
send-requires-in-Done g c =
    let (plan, size, items, f, rows, may) = c.requires.may in
    mark_follows_then plan size c.args.stream c.args.mark c.args.cutters.now (sent c.args.producer.now) items f rows may c.mark.result c.in-Some.bundle c.in-Some.is c.mark.ensures.given (rw c.in-Some.is c.in-Some.ensures.sound)
    (sent c.send.new.producer) (c.send.ensures.sent c.in-Done.is)

pub returns-in-Done-clause-sends : goal.returns-in-Done-clause-sends
returns-in-Done-clause-sends g c = λ plan size items f rows may.
    sends_by plan size _ (sent c.send-in-Done.new.producer) c.mark.new.self c.send-in-Done.result
    (λ e. mark_sent_then plan size c.args.stream c.args.mark c.args.cutters.now (sent c.args.producer.now) items f rows may c.mark.result c.in-Some.bundle c.in-Some.is c.mark.ensures.given (rw c.in-Some.is c.in-Some.ensures.sound)
    (sent c.send.new.producer) (c.send.ensures.sent c.in-Done.is) c.mark.new.self (sent c.send-in-Done.new.producer) c.mark.ensures.after (c.send-in-Done.ensures.sent e))
    (λ e. mark_unsent_then plan size c.args.stream c.args.mark c.args.cutters.now (sent c.args.producer.now) items f rows may c.mark.result c.in-Some.bundle c.in-Some.is c.mark.ensures.given (rw c.in-Some.is c.in-Some.ensures.sound)
    (sent c.send.new.producer) (c.send.ensures.sent c.in-Done.is) (sent c.send-in-Done.new.producer) (c.send-in-Done.ensures.unsent e))

pub returns-in-Over-clause-sends : goal.returns-in-Over-clause-sends
returns-in-Over-clause-sends g c = λ plan size items f rows may.
    last_unsent plan size c.args.stream c.args.mark c.args.cutters.now (sent c.args.producer.now) items f rows may c.mark.result c.in-Some.bundle c.in-Some.is c.mark.ensures.given (rw c.in-Some.is c.in-Some.ensures.sound)
    (sent c.send.new.producer) (c.send.ensures.unsent (rw c.in-Over.is (λ e. cc e)))

pub returns-in-NoMemory-clause-sends : goal.returns-in-NoMemory-clause-sends
returns-in-NoMemory-clause-sends g c = λ plan size items f rows may.
    last_unsent plan size c.args.stream c.args.mark c.args.cutters.now (sent c.args.producer.now) items f rows may c.mark.result c.in-Some.bundle c.in-Some.is c.mark.ensures.given (rw c.in-Some.is c.in-Some.ensures.sound)
    (sent c.send.new.producer) (c.send.ensures.unsent (rw c.in-NoMemory.is (λ e. cc e)))

pub send-requires-in-None : goal.send-requires-in-None
send-requires-in-None g c =
    let (plan, size, items, f, rows, may) = c.requires.may in
    mark_follows plan size c.args.stream c.args.mark c.args.cutters.now (sent c.args.producer.now) items f rows may c.mark.result c.in-None.is c.mark.ensures.given

pub returns-in-None-clause-sends : goal.returns-in-None-clause-sends
returns-in-None-clause-sends g c = λ plan size items f rows may.
    sends_by plan size _ (sent c.send-in-None.new.producer) c.mark.new.self c.send-in-None.result
    (λ e. mark_sent plan size c.args.stream c.args.mark c.args.cutters.now (sent c.args.producer.now) items f rows may c.mark.result c.in-None.is c.mark.ensures.given
    c.mark.new.self (sent c.send-in-None.new.producer) c.mark.ensures.after (c.send-in-None.ensures.sent e))
    (λ e. mark_unsent plan size c.args.stream c.args.mark c.args.cutters.now (sent c.args.producer.now) items f rows may c.mark.result c.in-None.is c.mark.ensures.given
    (sent c.send-in-None.new.producer) (c.send-in-None.ensures.unsent e))
