use Rattle.std.proofs.Common.{ap, sym, ◌∙◌}
use Rattle.rtrb.specs.Ring.{sent}
use Rattle.sb_feed.specs.base.records.Streams.{uses}
use Rattle.sb_feeds.proofs.SentSoFar.{end_may_take, unused_end, used_end}
use Rattle.sb_feeds.proofs.input.sending.send_end_of.Goals as goal

pub returns-then-not-uses-clause-sends : goal.returns-then-not-uses-clause-sends
returns-then-not-uses-clause-sends g c = λ plan size items f rows same may.
    unused_end plan size c.args.stream c.args.cutters.now (sent c.args.producer.now) items f rows
    (sym (ap (λ u. uses u c.args.stream) same) ∙ sym c.uses.ensures ∙ c.if-not-uses.true) may

pub send_mark-requires : goal.send_mark-requires
send_mark-requires g c =
    let (plan, size, items, f, rows, same, may) = c.requires.may in
    record { may = (plan, size, items, f, rows, end_may_take plan size c.args.cutters.now (sent c.args.producer.now) items f rows c.args.stream (sym (ap (λ u. uses u c.args.stream) same) ∙ sym c.uses.ensures ∙ c.if-not-uses.false) may) }

pub returns-clause-sends : goal.returns-clause-sends
returns-clause-sends g c = λ plan size items f rows same may.
    let used = sym (ap (λ u. uses u c.args.stream) same) ∙ sym c.uses.ensures ∙ c.if-not-uses.false in
    used_end plan size c.args.stream c.send_mark.new.cutters (sent c.send_mark.new.producer) items c.send_mark.result used
    (c.send_mark.ensures.sends plan size items f rows (end_may_take plan size c.args.cutters.now (sent c.args.producer.now) items f rows c.args.stream used may))
