use Rattle.std.proofs.Common.{◌≡◌, ◌≤◌, ◌++◌, ◌∙◌, ◌∷◌, [], true, false, append-nil, ap, arith, refl, rules, subst, sym}
use Rattle.rtrb.specs.Ring.{sent}
use Rattle.sb_feed.specs.base.records.declared.intake.TheConstants.{MAX_LINES}
use Rattle.sb_feed.specs.base.records.declared.item.Item.TheVariants.{Rec}
use Rattle.sb_feed.specs.base.records.Intake.{first_progress}
use Rattle.sb_feed.specs.outside.Readings.{Held, reading}
use Rattle.sb_feed.specs.Reads.{TakesItem}
use Rattle.sb_feeds.specs.declared.input.sending.Sending.TheVariants.{Done}
use Rattle.sb_feeds.specs.InputEnds.{values_sent}
use Rattle.sb_feeds.specs.InputSends.{Sends}
use Rattle.sb_feeds.proofs.InputValues.{same_ring}
use Rattle.sb_feeds.proofs.SentSoFar.{in_part, item_sent, item_unsent, may_end_here, may_take_next, sent_comments, sent_enough, so_far_still, stop_not_sent, stop_sent}
use Rattle.sb_feeds.proofs.input.sending.feed_input.Goals as goal

pub items-init : goal.items-init
items-init g c =
    let few : c.from-comments.result ≤ MAX_LINES = let most = c.take_comments.type_inv in let same = c.from-comments.ensures in omega (arith, most, same) in
    record {
      sent = sent_comments c.args.plan.now c.args.size (g.S.Source.left c.args.input.now) (g.S.Source.left c.take_comments.new.self) c.from-comments.result c.new-lines.result c.new-intake.result c.new-cutters.result
          (g.S.Source.faults c.args.input.now) (g.S.Source.faults c.take_comments.new.self) (values_sent c.args.out.now) c.args.dropped.now.items
          c.requires.some few (rw c.from-comments.ensures c.take_comments.ensures.comments) c.take_comments.ensures.unfailed
          c.new-lines.ensures
          (c.new-intake.ensures ∙ (λ i. first_progress (c.streams-streams.ensures.value i) c.from-comments.result (c.late.ensures i) (c.keys.ensures i)))
          c.new-cutters.ensures c.requires.nothing_sent;
      ring = refl;
      ends = λ e. absurd (cc (sym (ap (λ (l : Held). l.halt) c.new-lines.ensures), e));
      name = c.take_comments.ensures.name;
      room = let all = ap (λ p. p.lines) c.new-intake.ensures in omega (arith, all, few);
    }

pub returns-then-is_over-clause-read : goal.returns-then-is_over-clause-read
returns-then-is_over-clause-read g c =
    sent_enough g.S.Source.left c.args.plan.now c.args.size (g.S.Source.left c.args.input.now) c.items.input c.items.input c.items.lines c.items.lines c.items.intake c.items.intake c.items.cutters
    (g.S.Source.faults c.args.input.now) (g.S.Source.faults c.items.input) (g.S.Source.faults c.items.input) (values_sent c.items.out) c.args.dropped.now.items c.items.dropped.items c.items.invariant.sent

pub send_record-went-requires : goal.send_record-went-requires
send_record-went-requires g c =
    let h = c.items.invariant.sent in
    let r = c.in-Some.usual in
    let takes : TakesItem g.S.Source.left (reading c.items.input c.items.lines) (reading c.items.input c.next_usual.new.lines) c.items.intake c.next_usual.new.intake (Rec r.stream c.record-next.result) = rw c.record-next.ensures c.in-Some.ensures.takes in
    record {
      may = (
        c.args.plan.now,
        c.args.size,
        h.items,
        h.sent.f,
        [],
        may_take_next g.S.Source.left c.args.plan.now c.args.size (g.S.Source.left c.args.input.now) c.items.input c.items.input c.items.lines c.next_usual.new.lines c.items.intake c.next_usual.new.intake c.items.cutters
            (g.S.Source.faults c.args.input.now) (g.S.Source.faults c.items.input) (g.S.Source.faults c.items.input) (values_sent c.items.out) c.args.dropped.now.items c.items.dropped.items h c.requires.some (Rec r.stream c.record-next.result) takes c.in-Some.ensures.room,
      );
    }

pub goes_on-requires : goal.goes_on-requires
goes_on-requires g c =
    let h = c.items.invariant.sent in
    let r = c.in-Some.usual in
    let takes : TakesItem g.S.Source.left (reading c.items.input c.items.lines) (reading c.items.input c.next_usual.new.lines) c.items.intake c.next_usual.new.intake (Rec r.stream c.record-next.result) = rw c.record-next.ensures c.in-Some.ensures.takes in
    let may = may_take_next g.S.Source.left c.args.plan.now c.args.size (g.S.Source.left c.args.input.now) c.items.input c.items.input c.items.lines c.next_usual.new.lines c.items.intake c.next_usual.new.intake c.items.cutters
    (g.S.Source.faults c.args.input.now) (g.S.Source.faults c.items.input) (g.S.Source.faults c.items.input) (values_sent c.items.out) c.args.dropped.now.items c.items.dropped.items h c.requires.some (Rec r.stream c.record-next.result) takes c.in-Some.ensures.room in
    record { sends = (c.args.plan.now, c.args.size, h.items ++ Rec r.stream c.record-next.result ∷ [], c.send_record-went.new.cutters, c.send_record-went.ensures.sends c.args.plan.now c.args.size h.items h.sent.f [] may) }

pub items-preserved-in-Some : goal.items-preserved-in-Some
items-preserved-in-Some g c =
    let before = c.items.invariant in
    let h = c.items.invariant.sent in
    let r = c.in-Some.usual in
    let takes : TakesItem g.S.Source.left (reading c.items.input c.items.lines) (reading c.items.input c.next_usual.new.lines) c.items.intake c.next_usual.new.intake (Rec r.stream c.record-next.result) = rw c.record-next.ensures c.in-Some.ensures.takes in
    let may = may_take_next g.S.Source.left c.args.plan.now c.args.size (g.S.Source.left c.args.input.now) c.items.input c.items.input c.items.lines c.next_usual.new.lines c.items.intake c.next_usual.new.intake c.items.cutters
    (g.S.Source.faults c.args.input.now) (g.S.Source.faults c.items.input) (g.S.Source.faults c.items.input) (values_sent c.items.out) c.args.dropped.now.items c.items.dropped.items h c.requires.some (Rec r.stream c.record-next.result) takes c.in-Some.ensures.room in
    let all = h.items ++ Rec r.stream c.record-next.result ∷ [] in
    let on : c.goes_on.result ≡ true = search rules in
    let done = c.goes_on.ensures.exact.0 on in
    let sends = c.goes_on.ensures.sends c.args.plan.now c.args.size all c.send_record-went.new.cutters (c.send_record-went.ensures.sends c.args.plan.now c.args.size h.items h.sent.f [] may) in
    let more = item_sent g.S.Source.left c.args.plan.now c.args.size (g.S.Source.left c.args.input.now) c.items.input c.items.input c.items.lines c.next_usual.new.lines c.items.intake c.next_usual.new.intake c.items.cutters
    (g.S.Source.faults c.args.input.now) (g.S.Source.faults c.items.input) (g.S.Source.faults c.items.input) (values_sent c.items.out) c.args.dropped.now.items c.items.dropped.items h c.requires.some (Rec r.stream c.record-next.result) takes c.in-Some.ensures.room refl (sent c.goes_on.new.producer) c.items.dropped.items
    c.send_record-went.new.cutters (subst (Sends c.args.plan.now c.args.size all (sent c.goes_on.new.producer) c.send_record-went.new.cutters) done sends) (sym (append-nil c.items.dropped.items)) in
    record {
      sent = more;
      ring = same_ring c.send_record-went.new.producer c.goes_on.new.producer c.goes_on.ensures.ring ∙ same_ring c.items.out.producer c.send_record-went.new.producer c.send_record-went.ensures.ring ∙ before.ring;
      ends = λ e. absurd (cc (c.in-Some.ensures.on, e));
      name = before.name;
      room = more.read.room;
    }

pub returns-then-not-goes_on-clause-read : goal.returns-then-not-goes_on-clause-read
returns-then-not-goes_on-clause-read g c =
    let h = c.items.invariant.sent in
    let r = c.in-Some.usual in
    let takes : TakesItem g.S.Source.left (reading c.items.input c.items.lines) (reading c.items.input c.next_usual.new.lines) c.items.intake c.next_usual.new.intake (Rec r.stream c.record-next.result) = rw c.record-next.ensures c.in-Some.ensures.takes in
    let may = may_take_next g.S.Source.left c.args.plan.now c.args.size (g.S.Source.left c.args.input.now) c.items.input c.items.input c.items.lines c.next_usual.new.lines c.items.intake c.next_usual.new.intake c.items.cutters
    (g.S.Source.faults c.args.input.now) (g.S.Source.faults c.items.input) (g.S.Source.faults c.items.input) (values_sent c.items.out) c.args.dropped.now.items c.items.dropped.items h c.requires.some (Rec r.stream c.record-next.result) takes c.in-Some.ensures.room in
    let all = h.items ++ Rec r.stream c.record-next.result ∷ [] in
    let off : c.goes_on.result ≡ false = search rules in
    let stops : c.send_record-went.result ≡ Done → ⊥ = λ e. cc (off, c.goes_on.ensures.exact.1 e) in
    let sends = c.goes_on.ensures.sends c.args.plan.now c.args.size all c.send_record-went.new.cutters (c.send_record-went.ensures.sends c.args.plan.now c.args.size h.items h.sent.f [] may) in
    item_unsent g.S.Source.left c.args.plan.now c.args.size (g.S.Source.left c.args.input.now) c.items.input c.items.input c.items.lines c.next_usual.new.lines c.items.intake c.next_usual.new.intake c.items.cutters
    (g.S.Source.faults c.args.input.now) (g.S.Source.faults c.items.input) (g.S.Source.faults c.items.input) (values_sent c.items.out) c.args.dropped.now.items c.items.dropped.items h c.requires.some (Rec r.stream c.record-next.result) takes c.in-Some.ensures.room refl (sent c.goes_on.new.producer) c.items.dropped.items
    (in_part c.args.plan.now c.args.size all (sent c.goes_on.new.producer) c.send_record-went.new.cutters c.send_record-went.result stops sends) refl

pub send_item-went-requires : goal.send_item-went-requires
send_item-went-requires g c =
    let h = so_far_still c.args.plan.now c.args.size (g.S.Source.left c.args.input.now) (g.S.Source.left c.items.input) c.items.lines c.next_usual.new.lines c.items.intake c.next_usual.new.intake c.items.cutters (g.S.Source.faults c.args.input.now) (g.S.Source.faults c.items.input) (values_sent c.items.out) c.args.dropped.now.items c.items.dropped.items c.in_default.ensures.lines c.in_default.ensures.intake c.items.invariant.sent in
    record {
      may = (
        c.args.plan.now,
        c.args.size,
        h.items,
        h.sent.f,
        [],
        may_take_next g.S.Source.left c.args.plan.now c.args.size (g.S.Source.left c.args.input.now) c.items.input c.next_other.new.source c.next_usual.new.lines c.next_other.new.lines c.next_usual.new.intake c.next_other.new.intake c.items.cutters
            (g.S.Source.faults c.args.input.now) (g.S.Source.faults c.items.input) (g.S.Source.faults c.next_other.new.source) (values_sent c.items.out) c.args.dropped.now.items c.items.dropped.items h c.requires.some c.in-Ok.item c.in-Ok.ensures.takes c.in-Ok.ensures.room,
      );
    }

pub goes_on-requires-in-Ok : goal.goes_on-requires-in-Ok
goes_on-requires-in-Ok g c =
    let h = so_far_still c.args.plan.now c.args.size (g.S.Source.left c.args.input.now) (g.S.Source.left c.items.input) c.items.lines c.next_usual.new.lines c.items.intake c.next_usual.new.intake c.items.cutters (g.S.Source.faults c.args.input.now) (g.S.Source.faults c.items.input) (values_sent c.items.out) c.args.dropped.now.items c.items.dropped.items c.in_default.ensures.lines c.in_default.ensures.intake c.items.invariant.sent in
    let may = may_take_next g.S.Source.left c.args.plan.now c.args.size (g.S.Source.left c.args.input.now) c.items.input c.next_other.new.source c.next_usual.new.lines c.next_other.new.lines c.next_usual.new.intake c.next_other.new.intake c.items.cutters
    (g.S.Source.faults c.args.input.now) (g.S.Source.faults c.items.input) (g.S.Source.faults c.next_other.new.source) (values_sent c.items.out) c.args.dropped.now.items c.items.dropped.items h c.requires.some c.in-Ok.item c.in-Ok.ensures.takes c.in-Ok.ensures.room in
    record { sends = (c.args.plan.now, c.args.size, h.items ++ c.in-Ok.item ∷ [], c.send_item-went.new.cutters, c.send_item-went.ensures.sends c.args.plan.now c.args.size h.items h.sent.f [] may) }

pub items-preserved : goal.items-preserved
items-preserved g c =
    let before = c.items.invariant in
    let h = so_far_still c.args.plan.now c.args.size (g.S.Source.left c.args.input.now) (g.S.Source.left c.items.input) c.items.lines c.next_usual.new.lines c.items.intake c.next_usual.new.intake c.items.cutters (g.S.Source.faults c.args.input.now) (g.S.Source.faults c.items.input) (values_sent c.items.out) c.args.dropped.now.items c.items.dropped.items c.in_default.ensures.lines c.in_default.ensures.intake c.items.invariant.sent in
    let may = may_take_next g.S.Source.left c.args.plan.now c.args.size (g.S.Source.left c.args.input.now) c.items.input c.next_other.new.source c.next_usual.new.lines c.next_other.new.lines c.next_usual.new.intake c.next_other.new.intake c.items.cutters
    (g.S.Source.faults c.args.input.now) (g.S.Source.faults c.items.input) (g.S.Source.faults c.next_other.new.source) (values_sent c.items.out) c.args.dropped.now.items c.items.dropped.items h c.requires.some c.in-Ok.item c.in-Ok.ensures.takes c.in-Ok.ensures.room in
    let all = h.items ++ c.in-Ok.item ∷ [] in
    let on : c.goes_on-in-Ok.result ≡ true = search rules in
    let done = c.goes_on-in-Ok.ensures.exact.0 on in
    let sends = c.goes_on-in-Ok.ensures.sends c.args.plan.now c.args.size all c.send_item-went.new.cutters (c.send_item-went.ensures.sends c.args.plan.now c.args.size h.items h.sent.f [] may) in
    let more = item_sent g.S.Source.left c.args.plan.now c.args.size (g.S.Source.left c.args.input.now) c.items.input c.next_other.new.source c.next_usual.new.lines c.next_other.new.lines c.next_usual.new.intake c.next_other.new.intake c.items.cutters
    (g.S.Source.faults c.args.input.now) (g.S.Source.faults c.items.input) (g.S.Source.faults c.next_other.new.source) (values_sent c.items.out) c.args.dropped.now.items c.items.dropped.items h c.requires.some c.in-Ok.item c.in-Ok.ensures.takes c.in-Ok.ensures.room c.in-Ok.ensures.same (sent c.goes_on-in-Ok.new.producer) c.send_item-went.new.dropped.items
    c.send_item-went.new.cutters (subst (Sends c.args.plan.now c.args.size all (sent c.goes_on-in-Ok.new.producer) c.send_item-went.new.cutters) done sends) (c.send_item-went.ensures.kept done) in
    record {
      sent = more;
      ring = same_ring c.send_item-went.new.producer c.goes_on-in-Ok.new.producer c.goes_on-in-Ok.ensures.ring ∙ same_ring c.items.out.producer c.send_item-went.new.producer c.send_item-went.ensures.ring ∙ before.ring;
      ends = c.in-Ok.ensures.end (λ e. before.ends (sym (ap (λ (l : Held). l.halt) c.in_default.ensures.lines) ∙ e));
      name = c.in-Ok.ensures.name ∙ before.name;
      room = more.read.room;
    }

pub returns-then-not-goes_on-2-clause-read : goal.returns-then-not-goes_on-2-clause-read
returns-then-not-goes_on-2-clause-read g c =
    let h = so_far_still c.args.plan.now c.args.size (g.S.Source.left c.args.input.now) (g.S.Source.left c.items.input) c.items.lines c.next_usual.new.lines c.items.intake c.next_usual.new.intake c.items.cutters (g.S.Source.faults c.args.input.now) (g.S.Source.faults c.items.input) (values_sent c.items.out) c.args.dropped.now.items c.items.dropped.items c.in_default.ensures.lines c.in_default.ensures.intake c.items.invariant.sent in
    let may = may_take_next g.S.Source.left c.args.plan.now c.args.size (g.S.Source.left c.args.input.now) c.items.input c.next_other.new.source c.next_usual.new.lines c.next_other.new.lines c.next_usual.new.intake c.next_other.new.intake c.items.cutters
    (g.S.Source.faults c.args.input.now) (g.S.Source.faults c.items.input) (g.S.Source.faults c.next_other.new.source) (values_sent c.items.out) c.args.dropped.now.items c.items.dropped.items h c.requires.some c.in-Ok.item c.in-Ok.ensures.takes c.in-Ok.ensures.room in
    let all = h.items ++ c.in-Ok.item ∷ [] in
    let off : c.goes_on-in-Ok.result ≡ false = search rules in
    let stops : c.send_item-went.result ≡ Done → ⊥ = λ e. cc (off, c.goes_on-in-Ok.ensures.exact.1 e) in
    let sends = c.goes_on-in-Ok.ensures.sends c.args.plan.now c.args.size all c.send_item-went.new.cutters (c.send_item-went.ensures.sends c.args.plan.now c.args.size h.items h.sent.f [] may) in
    item_unsent g.S.Source.left c.args.plan.now c.args.size (g.S.Source.left c.args.input.now) c.items.input c.next_other.new.source c.next_usual.new.lines c.next_other.new.lines c.next_usual.new.intake c.next_other.new.intake c.items.cutters
    (g.S.Source.faults c.args.input.now) (g.S.Source.faults c.items.input) (g.S.Source.faults c.next_other.new.source) (values_sent c.items.out) c.args.dropped.now.items c.items.dropped.items h c.requires.some c.in-Ok.item c.in-Ok.ensures.takes c.in-Ok.ensures.room c.in-Ok.ensures.same (sent c.goes_on-in-Ok.new.producer) c.send_item-went.new.dropped.items
    (in_part c.args.plan.now c.args.size all (sent c.goes_on-in-Ok.new.producer) c.send_item-went.new.cutters c.send_item-went.result stops sends) (c.send_item-went.ensures.same_list stops)

pub send_stop-requires : goal.send_stop-requires
send_stop-requires g c =
    let h = so_far_still c.args.plan.now c.args.size (g.S.Source.left c.args.input.now) (g.S.Source.left c.items.input) c.items.lines c.next_usual.new.lines c.items.intake c.next_usual.new.intake c.items.cutters (g.S.Source.faults c.args.input.now) (g.S.Source.faults c.items.input) (values_sent c.items.out) c.args.dropped.now.items c.items.dropped.items c.in_default.ensures.lines c.in_default.ensures.intake c.items.invariant.sent in
    record {
      may = (
        c.args.plan.now,
        c.args.size,
        h.items,
        h.sent.f,
        [],
        c.streams-streams.ensures.value,
        may_end_here g.S.Source.left c.args.plan.now c.args.size (g.S.Source.left c.args.input.now) c.items.input c.next_other.new.source c.next_usual.new.lines c.next_other.new.lines c.next_usual.new.intake c.next_other.new.intake c.items.cutters
            (g.S.Source.faults c.args.input.now) (g.S.Source.faults c.items.input) (g.S.Source.faults c.next_other.new.source) (values_sent c.items.out) c.args.dropped.now.items c.items.dropped.items h c.requires.some,
      );
    }

pub returns-in-Done-clause-read : goal.returns-in-Done-clause-read
returns-in-Done-clause-read g c =
    let h = so_far_still c.args.plan.now c.args.size (g.S.Source.left c.args.input.now) (g.S.Source.left c.items.input) c.items.lines c.next_usual.new.lines c.items.intake c.next_usual.new.intake c.items.cutters (g.S.Source.faults c.args.input.now) (g.S.Source.faults c.items.input) (values_sent c.items.out) c.args.dropped.now.items c.items.dropped.items c.in_default.ensures.lines c.in_default.ensures.intake c.items.invariant.sent in
    stop_sent g.S.Source.left c.args.plan.now c.args.size (g.S.Source.left c.args.input.now) c.items.input c.next_other.new.source c.next_usual.new.lines c.next_other.new.lines c.next_usual.new.intake c.next_other.new.intake c.items.cutters
    (g.S.Source.faults c.args.input.now) (g.S.Source.faults c.items.input) (g.S.Source.faults c.next_other.new.source) (values_sent c.items.out) c.args.dropped.now.items c.items.dropped.items h c.in-Err.stop c.in-Err.ensures.takes c.in-Err.ensures.cause (sent c.send_stop.new.producer)
    c.send_stop.new.cutters (c.in-Done.ensures.sends c.args.plan.now c.args.size h.items h.sent.f [] c.streams-streams.ensures.value (may_end_here g.S.Source.left c.args.plan.now c.args.size (g.S.Source.left c.args.input.now) c.items.input c.next_other.new.source c.next_usual.new.lines c.next_other.new.lines c.next_usual.new.intake c.next_other.new.intake c.items.cutters
    (g.S.Source.faults c.args.input.now) (g.S.Source.faults c.items.input) (g.S.Source.faults c.next_other.new.source) (values_sent c.items.out) c.args.dropped.now.items c.items.dropped.items h c.requires.some))

pub returns-in-Over-clause-read : goal.returns-in-Over-clause-read
returns-in-Over-clause-read g c =
    let h = so_far_still c.args.plan.now c.args.size (g.S.Source.left c.args.input.now) (g.S.Source.left c.items.input) c.items.lines c.next_usual.new.lines c.items.intake c.next_usual.new.intake c.items.cutters (g.S.Source.faults c.args.input.now) (g.S.Source.faults c.items.input) (values_sent c.items.out) c.args.dropped.now.items c.items.dropped.items c.in_default.ensures.lines c.in_default.ensures.intake c.items.invariant.sent in
    stop_not_sent g.S.Source.left c.args.plan.now c.args.size (g.S.Source.left c.args.input.now) c.items.input c.next_other.new.source c.next_usual.new.lines c.next_other.new.lines c.next_usual.new.intake c.next_other.new.intake c.items.cutters
    (g.S.Source.faults c.args.input.now) (g.S.Source.faults c.items.input) (g.S.Source.faults c.next_other.new.source) (values_sent c.items.out) c.args.dropped.now.items c.items.dropped.items h c.in-Err.stop c.in-Err.ensures.takes c.in-Err.ensures.cause (sent c.send_stop.new.producer)
    (c.in-Over.ensures.sends c.args.plan.now c.args.size h.items h.sent.f [] c.streams-streams.ensures.value (may_end_here g.S.Source.left c.args.plan.now c.args.size (g.S.Source.left c.args.input.now) c.items.input c.next_other.new.source c.next_usual.new.lines c.next_other.new.lines c.next_usual.new.intake c.next_other.new.intake c.items.cutters
    (g.S.Source.faults c.args.input.now) (g.S.Source.faults c.items.input) (g.S.Source.faults c.next_other.new.source) (values_sent c.items.out) c.args.dropped.now.items c.items.dropped.items h c.requires.some))

pub returns-in-NoMemory-clause-read : goal.returns-in-NoMemory-clause-read
returns-in-NoMemory-clause-read g c =
    let h = so_far_still c.args.plan.now c.args.size (g.S.Source.left c.args.input.now) (g.S.Source.left c.items.input) c.items.lines c.next_usual.new.lines c.items.intake c.next_usual.new.intake c.items.cutters (g.S.Source.faults c.args.input.now) (g.S.Source.faults c.items.input) (values_sent c.items.out) c.args.dropped.now.items c.items.dropped.items c.in_default.ensures.lines c.in_default.ensures.intake c.items.invariant.sent in
    stop_not_sent g.S.Source.left c.args.plan.now c.args.size (g.S.Source.left c.args.input.now) c.items.input c.next_other.new.source c.next_usual.new.lines c.next_other.new.lines c.next_usual.new.intake c.next_other.new.intake c.items.cutters
    (g.S.Source.faults c.args.input.now) (g.S.Source.faults c.items.input) (g.S.Source.faults c.next_other.new.source) (values_sent c.items.out) c.args.dropped.now.items c.items.dropped.items h c.in-Err.stop c.in-Err.ensures.takes c.in-Err.ensures.cause (sent c.send_stop.new.producer)
    (c.in-NoMemory.ensures.sends c.args.plan.now c.args.size h.items h.sent.f [] c.streams-streams.ensures.value (may_end_here g.S.Source.left c.args.plan.now c.args.size (g.S.Source.left c.args.input.now) c.items.input c.next_other.new.source c.next_usual.new.lines c.next_other.new.lines c.next_usual.new.intake c.next_other.new.intake c.items.cutters
    (g.S.Source.faults c.args.input.now) (g.S.Source.faults c.items.input) (g.S.Source.faults c.next_other.new.source) (values_sent c.items.out) c.args.dropped.now.items c.items.dropped.items h c.requires.some))
