use Rattle.std.proofs.Common.{ap, arith, refl, sym, ◌∙◌}
use Rattle.sb_engines.specs.feeds.base.records.Intake.{first_progress}
use Rattle.sb_engines.specs.feeds.outside.Readings.{Held}
use Rattle.sb_run.proofs.GatheredItems.{gathered_all, gathered_listed, gathered_more, gathered_none, gathered_nothing, may_keep, on_error}
use Rattle.sb_run.proofs.cut.gathering.gather.Goals as goal

pub items-init : goal.items-init
items-init g c =
    record {
      so_far = gathered_nothing c.args.plan.now (g.S.Source.left c.args.source.now) c.new-lines.result c.new-intake.result (g.S.Source.faults c.args.source.now) c.new-keeper.result c.args.dropped.now.items
          c.new-lines.ensures (c.new-intake.ensures ∙ (λ i. first_progress (c.streams.ensures.value i) 0 (c.late.ensures i) (c.keys.ensures i))) c.new-keeper.ensures;
      ends = λ e. absurd (cc (sym (ap (λ (l : Held). l.halt) c.new-lines.ensures), e));
      name = refl;
      room = let none = ap (λ p. p.lines) c.new-intake.ensures in omega (arith, none);
    }

pub returns-in_err-keep_dropped-in-Ok-clause-none : goal.returns-in_err-keep_dropped-in-Ok-clause-none
returns-in_err-keep_dropped-in-Ok-clause-none g c =
    on_error c.from_residual.result (gathered_none g.S.Source.left c.args.plan.now (g.S.Source.left c.args.source.now) c.items.source c.next_item.new.source c.items.lines c.next_item.new.lines c.items.intake c.next_item.new.intake
    (g.S.Source.faults c.args.source.now) (g.S.Source.faults c.items.source) (g.S.Source.faults c.next_item.new.source) c.items.keeper c.args.dropped.now.items c.items.dropped.items c.items.invariant.so_far
    c.in-Ok.item c.keep_dropped.new.dropped.items c.in-Ok.ensures.takes c.in-Ok.ensures.same c.in-Ok.ensures.room c.in_err-keep_dropped-in-Ok.ensures.same)

pub keep-requires-clause-rises : goal.keep-requires-clause-rises
keep-requires-clause-rises g c =
    may_keep g.S.Source.left c.args.plan.now (g.S.Source.left c.args.source.now) c.items.source c.next_item.new.source c.items.lines c.next_item.new.lines c.items.intake c.next_item.new.intake
    (g.S.Source.faults c.args.source.now) (g.S.Source.faults c.items.source) (g.S.Source.faults c.next_item.new.source) c.items.keeper c.args.dropped.now.items c.items.dropped.items c.items.invariant.so_far
    c.in-Ok.item c.in-Ok.ensures.takes

pub items-preserved : goal.items-preserved
items-preserved g c =
    let more = gathered_more g.S.Source.left c.args.plan.now (g.S.Source.left c.args.source.now) c.items.source c.next_item.new.source c.items.lines c.next_item.new.lines c.items.intake c.next_item.new.intake
    (g.S.Source.faults c.args.source.now) (g.S.Source.faults c.items.source) (g.S.Source.faults c.next_item.new.source) c.items.keeper c.args.dropped.now.items c.items.dropped.items c.items.invariant.so_far
    c.in-Ok.item c.keep.new.self c.keep_dropped.new.dropped.items c.in-Ok.ensures.takes c.in-Ok.ensures.same c.in-Ok.ensures.room c.in_ok-keep-in-Ok.ensures c.in_ok-keep_dropped-in-Ok.ensures.kept in
    record { so_far = more; ends = c.in-Ok.ensures.end c.items.invariant.ends; name = c.in-Ok.ensures.name ∙ c.items.invariant.name; room = more.read.room }

pub returns-in_err-keep-in-Ok-clause-none : goal.returns-in_err-keep-in-Ok-clause-none
returns-in_err-keep-in-Ok-clause-none g c =
    on_error c.from_residual-in_err-keep-in-Ok.result (gathered_listed g.S.Source.left c.args.plan.now (g.S.Source.left c.args.source.now) c.items.source c.next_item.new.source c.items.lines c.next_item.new.lines c.items.intake c.next_item.new.intake
    (g.S.Source.faults c.args.source.now) (g.S.Source.faults c.items.source) (g.S.Source.faults c.next_item.new.source) c.items.keeper c.args.dropped.now.items c.items.dropped.items c.items.invariant.so_far
    c.in-Ok.item c.keep_dropped.new.dropped.items c.in-Ok.ensures.takes c.in-Ok.ensures.same c.in-Ok.ensures.room c.in_ok-keep_dropped-in-Ok.ensures.kept)

pub returns-in-Err-clause-gathers : goal.returns-in-Err-clause-gathers
returns-in-Err-clause-gathers g c =
    gathered_all g.S.Source.left c.args.plan.now (g.S.Source.left c.args.source.now) c.items.source c.next_item.new.source c.items.lines c.next_item.new.lines c.items.intake c.next_item.new.intake
    (g.S.Source.faults c.args.source.now) (g.S.Source.faults c.items.source) (g.S.Source.faults c.next_item.new.source) c.items.keeper c.args.dropped.now.items c.items.dropped.items c.items.invariant.so_far
    c.in-Err.stop c.in-Err.ensures.takes
