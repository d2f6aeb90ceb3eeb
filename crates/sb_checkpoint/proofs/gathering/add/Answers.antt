use Rattle.std.proofs.Common.{sym, ◌∙◌}
use Rattle.sb_checkpoint.proofs.SoFar.{may_is}
use Rattle.sb_checkpoint.proofs.gathering.add.Goals as goal

pub returns-then-not-may_follow-clause-may : goal.returns-then-not-may_follow-clause-may
returns-then-not-may_follow-clause-may c =
    let before = c.args.checkpoint.now in
    c.if-not-may_follow.ensures ∙ sym (may_is c.args.plan.now before.low before.records.items before.mark_a before.mark_b c.args.item)

pub returns-in_ok-push-in-Rec-clause-may : goal.returns-in_ok-push-in-Rec-clause-may
returns-in_ok-push-in-Rec-clause-may c =
    let before = c.args.checkpoint.now in
    c.if-not-may_follow.ensures ∙ sym (may_is c.args.plan.now before.low before.records.items before.mark_a before.mark_b c.args.item)

pub returns-in-Mark-A-default-clause-may : goal.returns-in-Mark-A-default-clause-may
returns-in-Mark-A-default-clause-may c =
    let before = c.args.checkpoint.now in
    c.if-not-may_follow.ensures ∙ sym (may_is c.args.plan.now before.low before.records.items before.mark_a before.mark_b c.args.item)

pub returns-in-Mark-B-default-clause-may : goal.returns-in-Mark-B-default-clause-may
returns-in-Mark-B-default-clause-may c =
    let before = c.args.checkpoint.now in
    c.if-not-may_follow.ensures ∙ sym (may_is c.args.plan.now before.low before.records.items before.mark_a before.mark_b c.args.item)
