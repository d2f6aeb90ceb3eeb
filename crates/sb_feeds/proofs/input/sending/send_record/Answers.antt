use Rattle.rtrb.specs.Ring.{sent}
use Rattle.sb_feeds.specs.declared.input.fed.InputFed.TheVariants as fed
use Rattle.sb_feeds.proofs.SentSoFar.{full_may_come, full_sent, full_unsent, held_sent, lost_sent, may_follow_sent, sends_by}
use Rattle.sb_feeds.proofs.input.sending.send_record.Goals as goal

pub send-requires : goal.send-requires
send-requires g c =
    let (plan, size, items, f, rows, may) = c.requires.may in
    may_follow_sent plan size (sent c.args.producer.now) f may.stand.0 (fed.Bundle c.args.stream c.in-Ok-Some.bundle)
    (full_may_come plan size c.args.stream c.args.next c.args.cutters.now (sent c.args.producer.now) items f rows may c.in-Ok-Some.field-0 c.in-Ok-Some.bundle c.in-Ok-Some.field-0-is c.in-Ok-Some.ensures.given c.in-Ok-Some.ensures.sound)

pub returns-in-Ok-Some-clause-sends : goal.returns-in-Ok-Some-clause-sends
returns-in-Ok-Some-clause-sends g c = λ plan size items f rows may.
    sends_by plan size _ (sent c.send.new.producer) c.push.new.self c.send.result
    (λ e. full_sent plan size c.args.stream c.args.next c.args.cutters.now (sent c.args.producer.now) items f rows may c.in-Ok-Some.field-0 c.in-Ok-Some.bundle c.in-Ok-Some.field-0-is c.in-Ok-Some.ensures.given c.in-Ok-Some.ensures.sound
    c.push.new.self (sent c.send.new.producer) c.in-Ok-Some.ensures.after (c.send.ensures.sent e))
    (λ e. full_unsent plan size c.args.stream c.args.next c.args.cutters.now (sent c.args.producer.now) items f rows may c.in-Ok-Some.field-0 c.in-Ok-Some.bundle c.in-Ok-Some.field-0-is c.in-Ok-Some.ensures.given c.in-Ok-Some.ensures.sound
    (sent c.send.new.producer) (c.send.ensures.unsent e))

pub returns-in-Ok-None-clause-sends : goal.returns-in-Ok-None-clause-sends
returns-in-Ok-None-clause-sends g c = λ plan size items f rows may.
    held_sent plan size c.args.stream c.args.next c.args.cutters.now (sent c.args.producer.now) items f rows may c.push.new.self c.in-Ok-None.field-0 c.in-Ok-None.field-0-is c.in-Ok-None.ensures.given c.in-Ok-None.ensures.after

pub returns-in-Err-clause-sends : goal.returns-in-Err-clause-sends
returns-in-Err-clause-sends g c = λ plan size items f rows may.
    lost_sent plan size c.args.stream c.args.next c.args.cutters.now (sent c.args.producer.now) items f rows may
