use Rattle.std.proofs.Common.{refl}
use Rattle.rtrb.specs.Ring.{sent}
use Rattle.sb_feeds.proofs.SentSoFar.{both_sent, first_may_end, first_unsent, none_to_send, then_may_end}
use Rattle.sb_feeds.proofs.input.sending.send_end.Goals as goal

pub send_end_of-requires : goal.send_end_of-requires
send_end_of-requires g c =
    let (plan, size, items, f, rows, same, may) = c.requires.may in
    record { may = (plan, size, items, f, rows, same, first_may_end plan size c.args.cutters.now (sent c.args.producer.now) items f rows may) }

pub send_end_of-requires-in-Done : goal.send_end_of-requires-in-Done
send_end_of-requires-in-Done g c =
    let (plan, size, items, f, rows, same, may) = c.requires.may in
    let first = rw c.in-Done.is at c.send_end_of.ensures.sends plan size items f rows same (first_may_end plan size c.args.cutters.now (sent c.args.producer.now) items f rows may) in
    record { may = (plan, size, _, first.f, _, same, then_may_end plan size c.args.cutters.now (sent c.args.producer.now) items f rows may c.send_end_of.new.cutters (sent c.send_end_of.new.producer) first) }

pub returns-in-Done-clause-sends : goal.returns-in-Done-clause-sends
returns-in-Done-clause-sends g c = λ plan size items f rows same may.
    let first = rw c.in-Done.is at c.send_end_of.ensures.sends plan size items f rows same (first_may_end plan size c.args.cutters.now (sent c.args.producer.now) items f rows may) in
    rw c.in-End.is (both_sent plan size c.args.cutters.now (sent c.args.producer.now) items f rows may c.send_end_of-in-Done.new.cutters (sent c.send_end_of-in-Done.new.producer) c.send_end_of-in-Done.result
    (c.send_end_of-in-Done.ensures.sends plan size _ first.f _ same (then_may_end plan size c.args.cutters.now (sent c.args.producer.now) items f rows may c.send_end_of.new.cutters (sent c.send_end_of.new.producer) first)))

pub returns-in-Over-clause-sends : goal.returns-in-Over-clause-sends
returns-in-Over-clause-sends g c = λ plan size items f rows same may.
    let first = rw c.in-Over.is at c.send_end_of.ensures.sends plan size items f rows same (first_may_end plan size c.args.cutters.now (sent c.args.producer.now) items f rows may) in
    rw c.in-End.is (first_unsent plan size c.args.cutters.now (sent c.args.producer.now) items f rows may (sent c.send_end_of.new.producer) first)

pub returns-in-NoMemory-clause-sends : goal.returns-in-NoMemory-clause-sends
returns-in-NoMemory-clause-sends g c = λ plan size items f rows same may.
    let first = rw c.in-NoMemory.is at c.send_end_of.ensures.sends plan size items f rows same (first_may_end plan size c.args.cutters.now (sent c.args.producer.now) items f rows may) in
    rw c.in-End.is (first_unsent plan size c.args.cutters.now (sent c.args.producer.now) items f rows may (sent c.send_end_of.new.producer) first)

pub returns-in-Refused-clause-sends : goal.returns-in-Refused-clause-sends
returns-in-Refused-clause-sends g c = λ plan size items f rows same may.
    none_to_send plan size c.args.cutters.now (sent c.args.producer.now) items f rows may c.args.stop (rw c.in-Refused.is refl)

pub returns-in-Fault-clause-sends : goal.returns-in-Fault-clause-sends
returns-in-Fault-clause-sends g c = λ plan size items f rows same may.
    none_to_send plan size c.args.cutters.now (sent c.args.producer.now) items f rows may c.args.stop (rw c.in-Fault.is refl)
