use Rattle.std.proofs.Common.{append-nil, [], ◌∙◌, ◌≤◌, ap, arith, refl, sym}
use Rattle.sb_base.specs.records.declared.intake.TheConstants.{MAX_LINES}
use Rattle.sb_base.specs.records.Intake.{first_progress}
use Rattle.sb_outside.specs.Readings.{Held, reading}
use Rattle.sb_base.specs.pipeline.Shapes.{Shape, streams_of}
use Rattle.sb_base.specs.records.declared.item.Item.TheVariants.{Rec}
use Rattle.sb_feed.specs.Feeds.{nothing_fed}
use Rattle.sb_feed.specs.Reads.{TakesItem}
use Rattle.sb_feed.proofs.FedSoFar.{all_fed, comments_fed, end_fails, fed_more, fed_still, item_fails, may_end, may_take}
use Rattle.sb_feed.proofs.GiveLaws.{cause_of_none, cause_then}
use Rattle.sb_feed.proofs.GivesInTurn.{AddsUp}
use Rattle.sb_feed.proofs.RowsSoFar.{so_far_by}
use Rattle.sb_feed.proofs.feeding.feed.Goals as goal

pub items-init : goal.items-init
items-init g c =
    let laws = g.met.R.RowOut g.world.𝓛 g.world.𝓜 g.world.𝓡 ((λ s x. x), (λ x. x), (λ x. x), λ x. x) in
    let adds_up : AddsUp g.R.RowOut.after g.R.RowOut.part = record { after_none = laws.after_none; after_more = laws.after_more; part_later = laws.part_later; part_of_all = laws.part_of_all } in
    let is = c.plan-plan.ensures in
    let few : c.from-comments.result ≤ MAX_LINES = let most = c.take_comments.type_inv in let same = c.from-comments.ensures in omega (arith, most, same) in
    record {
      fed = comments_fed g.S.Source.left g.S.Source.faults g.R.RowOut.after g.R.RowOut.part adds_up (g.E.Engine.plan c.args.engine.now) c.args.size c.requires.some
          (g.E.Engine.stands c.args.engine.now)
          (record { source = c.args.input.now; out = c.args.out.now; taps = _; dropped = c.args.dropped.now.items })
          c.take_comments.new.self c.from-comments.result
          c.new-lines.result c.new-intake.result c.new-cutters.result
          few (rw c.from-comments.ensures c.take_comments.ensures.comments) c.take_comments.ensures.unfailed
          c.new-lines.ensures
          (c.new-intake.ensures ∙ (λ i. first_progress ((c.streams.ensures.value ∙ ap streams_of is) i) c.from-comments.result ((c.late.ensures ∙ ap (λ (p : Shape). p.late) is) i) ((c.keys.ensures ∙ ap (λ (p : Shape). p.keys) is) i)))
          c.new-cutters.ensures c.requires.begins;
      same = g.met.E.Engine.same_here c.args.engine.now nothing_fed [] c.requires.begins;
      cause = cause_of_none (g.R.RowOut.row_state c.args.out.now) _ (λ e. cc e);
      fewer = omega arith;
      ends = λ e. absurd (cc (sym (ap (λ (l : Held). l.halt) c.new-lines.ensures), e));
      name = c.take_comments.ensures.name;
      room = let all = ap (λ p. p.lines) c.new-intake.ensures in omega (arith, all, few);
    }

pub take_record-requires-clause-may : goal.take_record-requires-clause-may
take_record-requires-clause-may g c κs within =
    let laws = g.met.R.RowOut g.world.𝓛 g.world.𝓜 g.world.𝓡 ((λ s x. x), (λ x. x), (λ x. x), λ x. x) in
    let adds_up : AddsUp g.R.RowOut.after g.R.RowOut.part = record { after_none = laws.after_none; after_more = laws.after_more; part_later = laws.part_later; part_of_all = laws.part_of_all } in
    let before = c.items.invariant in
    let r = c.in-Some.usual in
    let takes : TakesItem g.S.Source.left (reading c.items.input c.items.lines) (reading c.items.input c.next_usual.new.lines) c.items.intake c.next_usual.new.intake (Rec r.stream c.record.result) = rw c.record.ensures c.in-Some.ensures.takes in (
      before.fed.items,
      before.fed.f,
      before.fed.rows,
      may_take g.S.Source.left g.S.Source.faults g.R.RowOut.after g.R.RowOut.part adds_up (g.E.Engine.plan c.args.engine.now) c.args.size c.requires.some
          (g.E.Engine.plan c.items.engine) (g.E.Engine.size c.items.engine) (g.met.E.Engine.same_plan _ _ before.same) (g.met.E.Engine.same_size _ _ before.same ∙ c.requires.size) (g.E.Engine.stands c.items.engine)
          (record { source = c.args.input.now; out = c.args.out.now; taps = _; dropped = c.args.dropped.now.items })
          (record { source = c.items.input; out = c.items.out; taps = _; dropped = c.items.dropped.items })
          c.items.lines c.items.intake c.items.cutters before.fed
          c.items.input c.next_usual.new.lines c.next_usual.new.intake
          (Rec r.stream c.record.result) takes,
    )

pub items-preserved-in-Ok : goal.items-preserved-in-Ok
items-preserved-in-Ok g c =
    let laws = g.met.R.RowOut g.world.𝓛 g.world.𝓜 g.world.𝓡 ((λ s x. x), (λ x. x), (λ x. x), λ x. x) in
    let adds_up : AddsUp g.R.RowOut.after g.R.RowOut.part = record { after_none = laws.after_none; after_more = laws.after_more; part_later = laws.part_later; part_of_all = laws.part_of_all } in
    let before = c.items.invariant in
    let r = c.in-Some.usual in
    let takes : TakesItem g.S.Source.left (reading c.items.input c.items.lines) (reading c.items.input c.next_usual.new.lines) c.items.intake c.next_usual.new.intake (Rec r.stream c.record.result) = rw c.record.ensures c.in-Some.ensures.takes in
    let may = may_take g.S.Source.left g.S.Source.faults g.R.RowOut.after g.R.RowOut.part adds_up (g.E.Engine.plan c.args.engine.now) c.args.size c.requires.some
    (g.E.Engine.plan c.items.engine) (g.E.Engine.size c.items.engine) (g.met.E.Engine.same_plan _ _ before.same) (g.met.E.Engine.same_size _ _ before.same ∙ c.requires.size) (g.E.Engine.stands c.items.engine)
    (record { source = c.args.input.now; out = c.args.out.now; taps = _; dropped = c.args.dropped.now.items })
    (record { source = c.items.input; out = c.items.out; taps = _; dropped = c.items.dropped.items })
    c.items.lines c.items.intake c.items.cutters before.fed
    c.items.input c.next_usual.new.lines c.next_usual.new.intake
    (Rec r.stream c.record.result) takes in
    let more = fed_more g.S.Source.left g.S.Source.faults g.R.RowOut.after g.R.RowOut.part adds_up (g.E.Engine.plan c.args.engine.now) c.args.size c.requires.some
    (g.E.Engine.plan c.items.engine) (g.E.Engine.size c.items.engine) (g.met.E.Engine.same_plan _ _ before.same) (g.met.E.Engine.same_size _ _ before.same ∙ c.requires.size) (g.E.Engine.stands c.items.engine)
    (record { source = c.args.input.now; out = c.args.out.now; taps = _; dropped = c.args.dropped.now.items })
    (record { source = c.items.input; out = c.items.out; taps = _; dropped = c.items.dropped.items })
    c.items.lines c.items.intake c.items.cutters before.fed
    (so_far_by _ _ (g.E.Engine.stands c.items.engine) (g.met.E.Engine.same_plan _ _ before.same) (g.met.E.Engine.so_far c.items.engine))
    (record { source = c.items.input; out = c.take_record.new.out; taps = _; dropped = c.items.dropped.items }) c.next_usual.new.lines c.next_usual.new.intake
    (g.E.Engine.stands c.take_record.new.engine) (so_far_by _ _ (g.E.Engine.stands c.take_record.new.engine) (g.met.E.Engine.same_plan _ _ c.in-Ok.ensures.same ∙ g.met.E.Engine.same_plan _ _ before.same) (g.met.E.Engine.so_far c.take_record.new.engine)) c.take_record.new.cutters (Rec r.stream c.record.result) takes refl c.in-Some.ensures.room
    (c.in-Ok.ensures.takes before.fed.items before.fed.f before.fed.rows may) (sym (append-nil c.items.dropped.items)) in
    record {
      fed = more;
      same = g.met.E.Engine.same_then c.args.engine.now c.items.engine c.take_record.new.engine before.same c.in-Ok.ensures.same;
      cause = cause_then _ _ _ _ _ before.cause c.in-Ok.ensures.cause;
      fewer = let a = before.fewer in let b = c.in-Ok.ensures.fewer in omega (arith, a, b);
      ends = λ e. absurd (cc (c.in-Some.ensures.on, e));
      name = before.name;
      room = more.read.room;
    }

pub returns-in-Err-clause-feeds : goal.returns-in-Err-clause-feeds
returns-in-Err-clause-feeds g c =
    let laws = g.met.R.RowOut g.world.𝓛 g.world.𝓜 g.world.𝓡 ((λ s x. x), (λ x. x), (λ x. x), λ x. x) in
    let adds_up : AddsUp g.R.RowOut.after g.R.RowOut.part = record { after_none = laws.after_none; after_more = laws.after_more; part_later = laws.part_later; part_of_all = laws.part_of_all } in
    let before = c.items.invariant in
    let r = c.in-Some.usual in
    let takes : TakesItem g.S.Source.left (reading c.items.input c.items.lines) (reading c.items.input c.next_usual.new.lines) c.items.intake c.next_usual.new.intake (Rec r.stream c.record.result) = rw c.record.ensures c.in-Some.ensures.takes in
    let may = may_take g.S.Source.left g.S.Source.faults g.R.RowOut.after g.R.RowOut.part adds_up (g.E.Engine.plan c.args.engine.now) c.args.size c.requires.some
    (g.E.Engine.plan c.items.engine) (g.E.Engine.size c.items.engine) (g.met.E.Engine.same_plan _ _ before.same) (g.met.E.Engine.same_size _ _ before.same ∙ c.requires.size) (g.E.Engine.stands c.items.engine)
    (record { source = c.args.input.now; out = c.args.out.now; taps = _; dropped = c.args.dropped.now.items })
    (record { source = c.items.input; out = c.items.out; taps = _; dropped = c.items.dropped.items })
    c.items.lines c.items.intake c.items.cutters before.fed
    c.items.input c.next_usual.new.lines c.next_usual.new.intake
    (Rec r.stream c.record.result) takes in
    item_fails g.S.Source.left g.S.Source.faults g.R.RowOut.after g.R.RowOut.part adds_up (g.E.Engine.plan c.args.engine.now) c.args.size c.requires.some
    (g.E.Engine.plan c.items.engine) (g.E.Engine.size c.items.engine) (g.met.E.Engine.same_plan _ _ before.same) (g.met.E.Engine.same_size _ _ before.same ∙ c.requires.size) (g.E.Engine.stands c.items.engine)
    (record { source = c.args.input.now; out = c.args.out.now; taps = _; dropped = c.args.dropped.now.items })
    (record { source = c.items.input; out = c.items.out; taps = _; dropped = c.items.dropped.items })
    c.items.lines c.items.intake c.items.cutters before.fed
    (so_far_by _ _ (g.E.Engine.stands c.items.engine) (g.met.E.Engine.same_plan _ _ before.same) (g.met.E.Engine.so_far c.items.engine))
    (record { source = c.items.input; out = c.take_record.new.out; taps = _; dropped = c.items.dropped.items }) c.next_usual.new.lines c.next_usual.new.intake
    (Rec r.stream c.record.result) c.in-Err.why takes refl c.in-Some.ensures.room
    (c.in-Err.ensures.takes before.fed.items before.fed.f before.fed.rows may) refl

pub take_item-requires-clause-may : goal.take_item-requires-clause-may
take_item-requires-clause-may g c κs within =
    let laws = g.met.R.RowOut g.world.𝓛 g.world.𝓜 g.world.𝓡 ((λ s x. x), (λ x. x), (λ x. x), λ x. x) in
    let adds_up : AddsUp g.R.RowOut.after g.R.RowOut.part = record { after_none = laws.after_none; after_more = laws.after_more; part_later = laws.part_later; part_of_all = laws.part_of_all } in
    let before = c.items.invariant in
    let fed = fed_still g.S.Source.left g.S.Source.faults g.R.RowOut.after (g.E.Engine.plan c.args.engine.now) c.args.size (g.E.Engine.stands c.items.engine)
    (record { source = c.args.input.now; out = c.args.out.now; taps = _; dropped = c.args.dropped.now.items })
    (record { source = c.items.input; out = c.items.out; taps = _; dropped = c.items.dropped.items })
    c.items.lines c.next_usual.new.lines c.items.intake c.next_usual.new.intake c.items.cutters c.in_default.ensures.lines c.in_default.ensures.intake before.fed in (
      fed.items,
      fed.f,
      fed.rows,
      may_take g.S.Source.left g.S.Source.faults g.R.RowOut.after g.R.RowOut.part adds_up (g.E.Engine.plan c.args.engine.now) c.args.size c.requires.some
          (g.E.Engine.plan c.items.engine) (g.E.Engine.size c.items.engine) (g.met.E.Engine.same_plan _ _ before.same) (g.met.E.Engine.same_size _ _ before.same ∙ c.requires.size) (g.E.Engine.stands c.items.engine)
          (record { source = c.args.input.now; out = c.args.out.now; taps = _; dropped = c.args.dropped.now.items })
          (record { source = c.items.input; out = c.items.out; taps = _; dropped = c.items.dropped.items })
          c.next_usual.new.lines c.next_usual.new.intake c.items.cutters fed
          c.next_other.new.source c.next_other.new.lines c.next_other.new.intake
          c.in-Ok-next_other.item c.in-Ok-next_other.ensures.takes,
    )

pub items-preserved : goal.items-preserved
items-preserved g c =
    let laws = g.met.R.RowOut g.world.𝓛 g.world.𝓜 g.world.𝓡 ((λ s x. x), (λ x. x), (λ x. x), λ x. x) in
    let adds_up : AddsUp g.R.RowOut.after g.R.RowOut.part = record { after_none = laws.after_none; after_more = laws.after_more; part_later = laws.part_later; part_of_all = laws.part_of_all } in
    let before = c.items.invariant in
    let fed = fed_still g.S.Source.left g.S.Source.faults g.R.RowOut.after (g.E.Engine.plan c.args.engine.now) c.args.size (g.E.Engine.stands c.items.engine)
    (record { source = c.args.input.now; out = c.args.out.now; taps = _; dropped = c.args.dropped.now.items })
    (record { source = c.items.input; out = c.items.out; taps = _; dropped = c.items.dropped.items })
    c.items.lines c.next_usual.new.lines c.items.intake c.next_usual.new.intake c.items.cutters c.in_default.ensures.lines c.in_default.ensures.intake before.fed in
    let may = may_take g.S.Source.left g.S.Source.faults g.R.RowOut.after g.R.RowOut.part adds_up (g.E.Engine.plan c.args.engine.now) c.args.size c.requires.some
    (g.E.Engine.plan c.items.engine) (g.E.Engine.size c.items.engine) (g.met.E.Engine.same_plan _ _ before.same) (g.met.E.Engine.same_size _ _ before.same ∙ c.requires.size) (g.E.Engine.stands c.items.engine)
    (record { source = c.args.input.now; out = c.args.out.now; taps = _; dropped = c.args.dropped.now.items })
    (record { source = c.items.input; out = c.items.out; taps = _; dropped = c.items.dropped.items })
    c.next_usual.new.lines c.next_usual.new.intake c.items.cutters fed
    c.next_other.new.source c.next_other.new.lines c.next_other.new.intake
    c.in-Ok-next_other.item c.in-Ok-next_other.ensures.takes in
    let more = fed_more g.S.Source.left g.S.Source.faults g.R.RowOut.after g.R.RowOut.part adds_up (g.E.Engine.plan c.args.engine.now) c.args.size c.requires.some
    (g.E.Engine.plan c.items.engine) (g.E.Engine.size c.items.engine) (g.met.E.Engine.same_plan _ _ before.same) (g.met.E.Engine.same_size _ _ before.same ∙ c.requires.size) (g.E.Engine.stands c.items.engine)
    (record { source = c.args.input.now; out = c.args.out.now; taps = _; dropped = c.args.dropped.now.items })
    (record { source = c.items.input; out = c.items.out; taps = _; dropped = c.items.dropped.items })
    c.next_usual.new.lines c.next_usual.new.intake c.items.cutters fed
    (so_far_by _ _ (g.E.Engine.stands c.items.engine) (g.met.E.Engine.same_plan _ _ before.same) (g.met.E.Engine.so_far c.items.engine))
    (record { source = c.next_other.new.source; out = c.take_item.new.out; taps = _; dropped = c.take_item.new.dropped.items }) c.next_other.new.lines c.next_other.new.intake
    (g.E.Engine.stands c.take_item.new.engine) (so_far_by _ _ (g.E.Engine.stands c.take_item.new.engine) (g.met.E.Engine.same_plan _ _ c.in-Ok-take_item.ensures.same ∙ g.met.E.Engine.same_plan _ _ before.same) (g.met.E.Engine.so_far c.take_item.new.engine)) c.take_item.new.cutters c.in-Ok-next_other.item c.in-Ok-next_other.ensures.takes c.in-Ok-next_other.ensures.same c.in-Ok-next_other.ensures.room
    (c.in-Ok-take_item.ensures.takes fed.items fed.f fed.rows may) c.in-Ok-take_item.ensures.kept in
    record {
      fed = more;
      same = g.met.E.Engine.same_then c.args.engine.now c.items.engine c.take_item.new.engine before.same c.in-Ok-take_item.ensures.same;
      cause = cause_then _ _ _ _ _ before.cause c.in-Ok-take_item.ensures.cause;
      fewer = let a = before.fewer in let b = c.in-Ok-take_item.ensures.fewer in omega (arith, a, b);
      ends = c.in-Ok-next_other.ensures.end (λ e. before.ends (sym (ap (λ (l : Held). l.halt) c.in_default.ensures.lines) ∙ e));
      name = c.in-Ok-next_other.ensures.name ∙ before.name;
      room = more.read.room;
    }

pub returns-in-Err-take_item-clause-feeds : goal.returns-in-Err-take_item-clause-feeds
returns-in-Err-take_item-clause-feeds g c =
    let laws = g.met.R.RowOut g.world.𝓛 g.world.𝓜 g.world.𝓡 ((λ s x. x), (λ x. x), (λ x. x), λ x. x) in
    let adds_up : AddsUp g.R.RowOut.after g.R.RowOut.part = record { after_none = laws.after_none; after_more = laws.after_more; part_later = laws.part_later; part_of_all = laws.part_of_all } in
    let before = c.items.invariant in
    let fed = fed_still g.S.Source.left g.S.Source.faults g.R.RowOut.after (g.E.Engine.plan c.args.engine.now) c.args.size (g.E.Engine.stands c.items.engine)
    (record { source = c.args.input.now; out = c.args.out.now; taps = _; dropped = c.args.dropped.now.items })
    (record { source = c.items.input; out = c.items.out; taps = _; dropped = c.items.dropped.items })
    c.items.lines c.next_usual.new.lines c.items.intake c.next_usual.new.intake c.items.cutters c.in_default.ensures.lines c.in_default.ensures.intake before.fed in
    let may = may_take g.S.Source.left g.S.Source.faults g.R.RowOut.after g.R.RowOut.part adds_up (g.E.Engine.plan c.args.engine.now) c.args.size c.requires.some
    (g.E.Engine.plan c.items.engine) (g.E.Engine.size c.items.engine) (g.met.E.Engine.same_plan _ _ before.same) (g.met.E.Engine.same_size _ _ before.same ∙ c.requires.size) (g.E.Engine.stands c.items.engine)
    (record { source = c.args.input.now; out = c.args.out.now; taps = _; dropped = c.args.dropped.now.items })
    (record { source = c.items.input; out = c.items.out; taps = _; dropped = c.items.dropped.items })
    c.next_usual.new.lines c.next_usual.new.intake c.items.cutters fed
    c.next_other.new.source c.next_other.new.lines c.next_other.new.intake
    c.in-Ok-next_other.item c.in-Ok-next_other.ensures.takes in
    item_fails g.S.Source.left g.S.Source.faults g.R.RowOut.after g.R.RowOut.part adds_up (g.E.Engine.plan c.args.engine.now) c.args.size c.requires.some
    (g.E.Engine.plan c.items.engine) (g.E.Engine.size c.items.engine) (g.met.E.Engine.same_plan _ _ before.same) (g.met.E.Engine.same_size _ _ before.same ∙ c.requires.size) (g.E.Engine.stands c.items.engine)
    (record { source = c.args.input.now; out = c.args.out.now; taps = _; dropped = c.args.dropped.now.items })
    (record { source = c.items.input; out = c.items.out; taps = _; dropped = c.items.dropped.items })
    c.next_usual.new.lines c.next_usual.new.intake c.items.cutters fed
    (so_far_by _ _ (g.E.Engine.stands c.items.engine) (g.met.E.Engine.same_plan _ _ before.same) (g.met.E.Engine.so_far c.items.engine))
    (record { source = c.next_other.new.source; out = c.take_item.new.out; taps = _; dropped = c.take_item.new.dropped.items }) c.next_other.new.lines c.next_other.new.intake
    c.in-Ok-next_other.item c.in-Err-take_item.why c.in-Ok-next_other.ensures.takes c.in-Ok-next_other.ensures.same c.in-Ok-next_other.ensures.room
    (c.in-Err-take_item.ensures.takes fed.items fed.f fed.rows may) c.in-Err-take_item.ensures.same_list

pub end_input-requires-clause-may : goal.end_input-requires-clause-may
end_input-requires-clause-may g c κs within =
    let laws = g.met.R.RowOut g.world.𝓛 g.world.𝓜 g.world.𝓡 ((λ s x. x), (λ x. x), (λ x. x), λ x. x) in
    let adds_up : AddsUp g.R.RowOut.after g.R.RowOut.part = record { after_none = laws.after_none; after_more = laws.after_more; part_later = laws.part_later; part_of_all = laws.part_of_all } in
    let before = c.items.invariant in
    let fed = fed_still g.S.Source.left g.S.Source.faults g.R.RowOut.after (g.E.Engine.plan c.args.engine.now) c.args.size (g.E.Engine.stands c.items.engine)
    (record { source = c.args.input.now; out = c.args.out.now; taps = _; dropped = c.args.dropped.now.items })
    (record { source = c.items.input; out = c.items.out; taps = _; dropped = c.items.dropped.items })
    c.items.lines c.next_usual.new.lines c.items.intake c.next_usual.new.intake c.items.cutters c.in_default.ensures.lines c.in_default.ensures.intake before.fed in (
      fed.items,
      fed.f,
      fed.rows,
      may_end g.S.Source.left g.S.Source.faults g.R.RowOut.after g.R.RowOut.part adds_up (g.E.Engine.plan c.args.engine.now) c.args.size c.requires.some
          (g.E.Engine.plan c.items.engine) (g.E.Engine.size c.items.engine) (g.met.E.Engine.same_plan _ _ before.same) (g.met.E.Engine.same_size _ _ before.same ∙ c.requires.size) (g.E.Engine.stands c.items.engine)
          (record { source = c.args.input.now; out = c.args.out.now; taps = _; dropped = c.args.dropped.now.items })
          (record { source = c.items.input; out = c.items.out; taps = _; dropped = c.items.dropped.items })
          c.next_usual.new.lines c.next_usual.new.intake c.items.cutters fed,
    )

pub returns-in-Ok-end_input-clause-feeds : goal.returns-in-Ok-end_input-clause-feeds
returns-in-Ok-end_input-clause-feeds g c =
    let laws = g.met.R.RowOut g.world.𝓛 g.world.𝓜 g.world.𝓡 ((λ s x. x), (λ x. x), (λ x. x), λ x. x) in
    let adds_up : AddsUp g.R.RowOut.after g.R.RowOut.part = record { after_none = laws.after_none; after_more = laws.after_more; part_later = laws.part_later; part_of_all = laws.part_of_all } in
    let before = c.items.invariant in
    let fed = fed_still g.S.Source.left g.S.Source.faults g.R.RowOut.after (g.E.Engine.plan c.args.engine.now) c.args.size (g.E.Engine.stands c.items.engine)
    (record { source = c.args.input.now; out = c.args.out.now; taps = _; dropped = c.args.dropped.now.items })
    (record { source = c.items.input; out = c.items.out; taps = _; dropped = c.items.dropped.items })
    c.items.lines c.next_usual.new.lines c.items.intake c.next_usual.new.intake c.items.cutters c.in_default.ensures.lines c.in_default.ensures.intake before.fed in
    let may = may_end g.S.Source.left g.S.Source.faults g.R.RowOut.after g.R.RowOut.part adds_up (g.E.Engine.plan c.args.engine.now) c.args.size c.requires.some
    (g.E.Engine.plan c.items.engine) (g.E.Engine.size c.items.engine) (g.met.E.Engine.same_plan _ _ before.same) (g.met.E.Engine.same_size _ _ before.same ∙ c.requires.size) (g.E.Engine.stands c.items.engine)
    (record { source = c.args.input.now; out = c.args.out.now; taps = _; dropped = c.args.dropped.now.items })
    (record { source = c.items.input; out = c.items.out; taps = _; dropped = c.items.dropped.items })
    c.next_usual.new.lines c.next_usual.new.intake c.items.cutters fed in
    all_fed g.S.Source.left g.S.Source.faults g.R.RowOut.after g.R.RowOut.part adds_up (g.E.Engine.plan c.args.engine.now) c.args.size c.requires.some
    (g.E.Engine.plan c.items.engine) (g.E.Engine.size c.items.engine) (g.met.E.Engine.same_plan _ _ before.same) (g.met.E.Engine.same_size _ _ before.same ∙ c.requires.size) (g.E.Engine.stands c.items.engine)
    (record { source = c.args.input.now; out = c.args.out.now; taps = _; dropped = c.args.dropped.now.items })
    (record { source = c.items.input; out = c.items.out; taps = _; dropped = c.items.dropped.items })
    c.next_usual.new.lines c.next_usual.new.intake c.items.cutters fed
    (so_far_by _ _ (g.E.Engine.stands c.items.engine) (g.met.E.Engine.same_plan _ _ before.same) (g.met.E.Engine.so_far c.items.engine))
    (record { source = c.next_other.new.source; out = c.end_input.new.out; taps = _; dropped = c.items.dropped.items }) c.next_other.new.lines c.next_other.new.intake
    (g.E.Engine.stands c.end_input.new.engine) (so_far_by _ _ (g.E.Engine.stands c.end_input.new.engine) (g.met.E.Engine.same_plan _ _ c.in-Ok-end_input.ensures.same ∙ g.met.E.Engine.same_plan _ _ before.same) (g.met.E.Engine.so_far c.end_input.new.engine)) c.end_input.new.cutters c.in-Err-next_other.stop c.in-Err-next_other.ensures.takes
    (c.in-Ok-end_input.ensures.takes fed.items fed.f fed.rows may) refl

pub returns-in-Ok-end_input-clause-same : goal.returns-in-Ok-end_input-clause-same
returns-in-Ok-end_input-clause-same g c = g.met.E.Engine.same_then c.args.engine.now c.items.engine c.end_input.new.engine c.items.invariant.same c.in-Ok-end_input.ensures.same

pub returns-in-Err-end_input-clause-feeds : goal.returns-in-Err-end_input-clause-feeds
returns-in-Err-end_input-clause-feeds g c =
    let laws = g.met.R.RowOut g.world.𝓛 g.world.𝓜 g.world.𝓡 ((λ s x. x), (λ x. x), (λ x. x), λ x. x) in
    let adds_up : AddsUp g.R.RowOut.after g.R.RowOut.part = record { after_none = laws.after_none; after_more = laws.after_more; part_later = laws.part_later; part_of_all = laws.part_of_all } in
    let before = c.items.invariant in
    let fed = fed_still g.S.Source.left g.S.Source.faults g.R.RowOut.after (g.E.Engine.plan c.args.engine.now) c.args.size (g.E.Engine.stands c.items.engine)
    (record { source = c.args.input.now; out = c.args.out.now; taps = _; dropped = c.args.dropped.now.items })
    (record { source = c.items.input; out = c.items.out; taps = _; dropped = c.items.dropped.items })
    c.items.lines c.next_usual.new.lines c.items.intake c.next_usual.new.intake c.items.cutters c.in_default.ensures.lines c.in_default.ensures.intake before.fed in
    let may = may_end g.S.Source.left g.S.Source.faults g.R.RowOut.after g.R.RowOut.part adds_up (g.E.Engine.plan c.args.engine.now) c.args.size c.requires.some
    (g.E.Engine.plan c.items.engine) (g.E.Engine.size c.items.engine) (g.met.E.Engine.same_plan _ _ before.same) (g.met.E.Engine.same_size _ _ before.same ∙ c.requires.size) (g.E.Engine.stands c.items.engine)
    (record { source = c.args.input.now; out = c.args.out.now; taps = _; dropped = c.args.dropped.now.items })
    (record { source = c.items.input; out = c.items.out; taps = _; dropped = c.items.dropped.items })
    c.next_usual.new.lines c.next_usual.new.intake c.items.cutters fed in
    end_fails g.S.Source.left g.S.Source.faults g.R.RowOut.after g.R.RowOut.part adds_up (g.E.Engine.plan c.args.engine.now) c.args.size c.requires.some
    (g.E.Engine.plan c.items.engine) (g.E.Engine.size c.items.engine) (g.met.E.Engine.same_plan _ _ before.same) (g.met.E.Engine.same_size _ _ before.same ∙ c.requires.size) (g.E.Engine.stands c.items.engine)
    (record { source = c.args.input.now; out = c.args.out.now; taps = _; dropped = c.args.dropped.now.items })
    (record { source = c.items.input; out = c.items.out; taps = _; dropped = c.items.dropped.items })
    c.next_usual.new.lines c.next_usual.new.intake c.items.cutters fed
    (so_far_by _ _ (g.E.Engine.stands c.items.engine) (g.met.E.Engine.same_plan _ _ before.same) (g.met.E.Engine.so_far c.items.engine))
    (record { source = c.next_other.new.source; out = c.end_input.new.out; taps = _; dropped = c.items.dropped.items }) c.next_other.new.lines c.next_other.new.intake
    c.in-Err-next_other.stop c.in-Err-end_input.why c.in-Err-next_other.ensures.takes
    (c.in-Err-end_input.ensures.takes fed.items fed.f fed.rows may) refl

pub returns-in-Err-end_input-clause-source : goal.returns-in-Err-end_input-clause-source
returns-in-Err-end_input-clause-source g c = (rw c.in-Err-end_input.ensures.at_end at c.in-Err-next_other.ensures.cause) ∙ c.items.invariant.fed.read.no_fault
