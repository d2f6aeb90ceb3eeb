use Rattle.std.proofs.Common.{◌≤◌, ◌∙◌, arith, refl, subst, sym}
use Rattle.sb_engines.specs.feeds.base.pipeline.Shapes.{streams_of}
use Rattle.sb_engines.specs.worker.cascade.Calls.{plan_of, setting_of}
use Rattle.sb_engines.proofs.feeds.one_feed.GiveLaws.{cause_of_none, cause_then}
use Rattle.sb_engines.proofs.feeds.one_feed.GivesInTurn.{AddsUp}
use Rattle.sb_engines.specs.Feeders.{HasFed}
use Rattle.sb_engines.specs.feeds.base.Inputs.{by_stream}
use Rattle.sb_run.specs.Pops.{files_stop_if, values_of}
use Rattle.sb_engines.specs.EngineLaws.{still_here, still_then}
use Rattle.sb_run.proofs.FilesSoFar.{files_ended, files_fail, files_may_end, files_may_take, files_more, files_still, files_wanting, nothing_yet}
use Rattle.sb_run.proofs.files.feeding.feed_values.Goals as goal

pub loop-init : goal.loop-init
loop-init g c =
    let laws = g.met.R.RowOut g.world.𝓛 g.world.𝓜 g.world.𝓡 ((λ s x. x), (λ x. x), (λ x. x), λ x. x) in
    let adds_up : AddsUp g.R.RowOut.after g.R.RowOut.part = record { after_none = laws.after_none; after_more = laws.after_more; part_later = laws.part_later; part_of_all = laws.part_of_all } in
    record {
      fed = nothing_yet g.R.RowOut.after g.R.RowOut.part adds_up (plan_of c.args.common.now.cascade.now) (setting_of c.args.common.now.cascade.now).bundle (subst (λ n. 1 ≤ n) (sym c.requires.begins.is_size) c.requires.begins.some)
          (HasFed c.args.common.now.cascade.now c.args.pass.now) (record { out = c.args.out.now; taps = _; dropped = by_stream c.args.dropped.now.a.items c.args.dropped.now.b.items })
          (values_of c.args.inlets.now) c.args.common.now.size c.new-cutters.result c.requires.begins.is_size c.new-cutters.ensures c.requires.nothing c.requires.begins.fed;
      inlets_are = c.requires.inlets;
      ring_a = refl;
      ring_b = refl;
      same = still_here c.args.common.now.cascade.now c.args.pass.now c.requires.begins.fed.ready;
      cause = cause_of_none (g.R.RowOut.row_state c.args.out.now) _ (λ e. cc e);
      fewer = omega arith;
    }

pub take_of-requires-clause-may : goal.take_of-requires-clause-may
take_of-requires-clause-may g c κs within =
    let laws = g.met.R.RowOut g.world.𝓛 g.world.𝓜 g.world.𝓡 ((λ s x. x), (λ x. x), (λ x. x), λ x. x) in
    let adds_up : AddsUp g.R.RowOut.after g.R.RowOut.part = record { after_none = laws.after_none; after_more = laws.after_more; part_later = laws.part_later; part_of_all = laws.part_of_all } in
    let h = c.loop.invariant.fed in
    let pops = c.in-Some-pop.ensures.pops (streams_of (plan_of c.args.common.now.cascade.now)) c.loop.invariant.inlets_are in (
      h.items,
      h.f,
      h.rows,
      files_may_take g.R.RowOut.after g.R.RowOut.part adds_up (plan_of c.args.common.now.cascade.now) (setting_of c.args.common.now.cascade.now).bundle (subst (λ n. 1 ≤ n) (sym c.requires.begins.is_size) c.requires.begins.some)
          (HasFed c.args.common.now.cascade.now c.loop.pass)
          (record { out = c.args.out.now; taps = _; dropped = by_stream c.args.dropped.now.a.items c.args.dropped.now.b.items })
          (record { out = c.loop.out; taps = _; dropped = by_stream c.loop.dropped.a.items c.loop.dropped.b.items })
          (values_of c.loop.inlets) c.loop.cutters h c.in-Some-pop.next.0 c.in-Some-pop.next.1 (values_of c.pop.new.self) pops.1 pops.2,
    )

pub loop-preserved-in-Ok : goal.loop-preserved-in-Ok
loop-preserved-in-Ok g c =
    let laws = g.met.R.RowOut g.world.𝓛 g.world.𝓜 g.world.𝓡 ((λ s x. x), (λ x. x), (λ x. x), λ x. x) in
    let adds_up : AddsUp g.R.RowOut.after g.R.RowOut.part = record { after_none = laws.after_none; after_more = laws.after_more; part_later = laws.part_later; part_of_all = laws.part_of_all } in
    let before = c.loop.invariant in
    let h = before.fed in
    let pops = c.in-Some-pop.ensures.pops (streams_of (plan_of c.args.common.now.cascade.now)) before.inlets_are in
    let may = files_may_take g.R.RowOut.after g.R.RowOut.part adds_up (plan_of c.args.common.now.cascade.now) (setting_of c.args.common.now.cascade.now).bundle (subst (λ n. 1 ≤ n) (sym c.requires.begins.is_size) c.requires.begins.some)
    (HasFed c.args.common.now.cascade.now c.loop.pass)
    (record { out = c.args.out.now; taps = _; dropped = by_stream c.args.dropped.now.a.items c.args.dropped.now.b.items })
    (record { out = c.loop.out; taps = _; dropped = by_stream c.loop.dropped.a.items c.loop.dropped.b.items })
    (values_of c.loop.inlets) c.loop.cutters h c.in-Some-pop.next.0 c.in-Some-pop.next.1 (values_of c.pop.new.self) pops.1 pops.2 in
    record {
      fed = files_more g.R.RowOut.after g.R.RowOut.part adds_up (plan_of c.args.common.now.cascade.now) (setting_of c.args.common.now.cascade.now).bundle (subst (λ n. 1 ≤ n) (sym c.requires.begins.is_size) c.requires.begins.some)
          (HasFed c.args.common.now.cascade.now c.loop.pass)
          (record { out = c.args.out.now; taps = _; dropped = by_stream c.args.dropped.now.a.items c.args.dropped.now.b.items })
          (record { out = c.loop.out; taps = _; dropped = by_stream c.loop.dropped.a.items c.loop.dropped.b.items })
          (values_of c.loop.inlets) c.loop.cutters h c.in-Some-pop.next.0 c.in-Some-pop.next.1 (values_of c.pop.new.self) pops.1 pops.2
          (HasFed c.args.common.now.cascade.now c.take_of.new.pass) (λ f rows x. x.so_far) (λ f rows x. x.so_far) (record { out = c.take_of.new.out; taps = _; dropped = by_stream c.take_of.new.dropped.a.items c.take_of.new.dropped.b.items }) c.take_of.new.cutters
          (c.in-Ok.ensures.takes h.items h.f h.rows may) c.in-Ok.ensures.kept;
      inlets_are = pops.0;
      ring_a = c.in-Some-pop.ensures.ring_a ∙ before.ring_a;
      ring_b = c.in-Some-pop.ensures.ring_b ∙ before.ring_b;
      same = still_then c.args.common.now.cascade.now c.args.pass.now c.loop.pass c.take_of.new.pass before.same c.in-Ok.ensures.same;
      cause = cause_then _ _ _ _ _ before.cause c.in-Ok.ensures.cause;
      fewer = let a = before.fewer in let b = c.in-Ok.ensures.fewer in omega (arith, a, b);
    }

pub returns-in-Err-clause-feeds : goal.returns-in-Err-clause-feeds
returns-in-Err-clause-feeds g c =
    let laws = g.met.R.RowOut g.world.𝓛 g.world.𝓜 g.world.𝓡 ((λ s x. x), (λ x. x), (λ x. x), λ x. x) in
    let adds_up : AddsUp g.R.RowOut.after g.R.RowOut.part = record { after_none = laws.after_none; after_more = laws.after_more; part_later = laws.part_later; part_of_all = laws.part_of_all } in
    let h = c.loop.invariant.fed in
    let pops = c.in-Some-pop.ensures.pops (streams_of (plan_of c.args.common.now.cascade.now)) c.loop.invariant.inlets_are in
    let may = files_may_take g.R.RowOut.after g.R.RowOut.part adds_up (plan_of c.args.common.now.cascade.now) (setting_of c.args.common.now.cascade.now).bundle (subst (λ n. 1 ≤ n) (sym c.requires.begins.is_size) c.requires.begins.some)
    (HasFed c.args.common.now.cascade.now c.loop.pass)
    (record { out = c.args.out.now; taps = _; dropped = by_stream c.args.dropped.now.a.items c.args.dropped.now.b.items })
    (record { out = c.loop.out; taps = _; dropped = by_stream c.loop.dropped.a.items c.loop.dropped.b.items })
    (values_of c.loop.inlets) c.loop.cutters h c.in-Some-pop.next.0 c.in-Some-pop.next.1 (values_of c.pop.new.self) pops.1 pops.2 in
    files_fail g.R.RowOut.after g.R.RowOut.part adds_up (plan_of c.args.common.now.cascade.now) (setting_of c.args.common.now.cascade.now).bundle (subst (λ n. 1 ≤ n) (sym c.requires.begins.is_size) c.requires.begins.some)
    (HasFed c.args.common.now.cascade.now c.loop.pass)
    (record { out = c.args.out.now; taps = _; dropped = by_stream c.args.dropped.now.a.items c.args.dropped.now.b.items })
    (record { out = c.loop.out; taps = _; dropped = by_stream c.loop.dropped.a.items c.loop.dropped.b.items })
    (values_of c.loop.inlets) c.loop.cutters h c.in-Some-pop.next.0 c.in-Some-pop.next.1 (values_of c.pop.new.self) pops.1 pops.2
    (λ f rows x. x.so_far) (record { out = c.take_of.new.out; taps = _; dropped = by_stream c.take_of.new.dropped.a.items c.take_of.new.dropped.b.items }) c.in-Err.why (c.in-Err.ensures.takes h.items h.f h.rows may) c.in-Err.ensures.same_lists

pub end_both-requires-clause-may : goal.end_both-requires-clause-may
end_both-requires-clause-may g c κs within =
    let laws = g.met.R.RowOut g.world.𝓛 g.world.𝓜 g.world.𝓡 ((λ s x. x), (λ x. x), (λ x. x), λ x. x) in
    let adds_up : AddsUp g.R.RowOut.after g.R.RowOut.part = record { after_none = laws.after_none; after_more = laws.after_more; part_later = laws.part_later; part_of_all = laws.part_of_all } in
    let h = c.loop.invariant.fed in (
      h.items,
      h.f,
      h.rows,
      files_may_end g.R.RowOut.after g.R.RowOut.part adds_up (plan_of c.args.common.now.cascade.now) (setting_of c.args.common.now.cascade.now).bundle (subst (λ n. 1 ≤ n) (sym c.requires.begins.is_size) c.requires.begins.some)
          (HasFed c.args.common.now.cascade.now c.loop.pass)
          (record { out = c.args.out.now; taps = _; dropped = by_stream c.args.dropped.now.a.items c.args.dropped.now.b.items })
          (record { out = c.loop.out; taps = _; dropped = by_stream c.loop.dropped.a.items c.loop.dropped.b.items })
          (values_of c.loop.inlets) c.loop.cutters h,
    )

pub returns-in-Some-stop-clause-feeds : goal.returns-in-Some-stop-clause-feeds
returns-in-Some-stop-clause-feeds g c =
    let laws = g.met.R.RowOut g.world.𝓛 g.world.𝓜 g.world.𝓡 ((λ s x. x), (λ x. x), (λ x. x), λ x. x) in
    let adds_up : AddsUp g.R.RowOut.after g.R.RowOut.part = record { after_none = laws.after_none; after_more = laws.after_more; part_later = laws.part_later; part_of_all = laws.part_of_all } in
    let h = c.loop.invariant.fed in
    let pops = c.in-None-pop.ensures.pops (streams_of (plan_of c.args.common.now.cascade.now)) c.loop.invariant.inlets_are in
    let now = files_still g.R.RowOut.after g.R.RowOut.part adds_up (plan_of c.args.common.now.cascade.now) (setting_of c.args.common.now.cascade.now).bundle (subst (λ n. 1 ≤ n) (sym c.requires.begins.is_size) c.requires.begins.some)
    (HasFed c.args.common.now.cascade.now c.loop.pass)
    (record { out = c.args.out.now; taps = _; dropped = by_stream c.args.dropped.now.a.items c.args.dropped.now.b.items })
    (record { out = c.loop.out; taps = _; dropped = by_stream c.loop.dropped.a.items c.loop.dropped.b.items })
    (values_of c.loop.inlets) c.loop.cutters h
    (HasFed c.args.common.now.cascade.now c.loop.pass) (values_of c.pop.new.self) (λ f rows x. x) pops.1 in
    let may = files_may_end g.R.RowOut.after g.R.RowOut.part adds_up (plan_of c.args.common.now.cascade.now) (setting_of c.args.common.now.cascade.now).bundle (subst (λ n. 1 ≤ n) (sym c.requires.begins.is_size) c.requires.begins.some)
    (HasFed c.args.common.now.cascade.now c.loop.pass)
    (record { out = c.args.out.now; taps = _; dropped = by_stream c.args.dropped.now.a.items c.args.dropped.now.b.items })
    (record { out = c.loop.out; taps = _; dropped = by_stream c.loop.dropped.a.items c.loop.dropped.b.items })
    (values_of c.pop.new.self) c.loop.cutters now in
    files_ended g.R.RowOut.after g.R.RowOut.part adds_up (plan_of c.args.common.now.cascade.now) (setting_of c.args.common.now.cascade.now).bundle (subst (λ n. 1 ≤ n) (sym c.requires.begins.is_size) c.requires.begins.some)
    (HasFed c.args.common.now.cascade.now c.loop.pass)
    (record { out = c.args.out.now; taps = _; dropped = by_stream c.args.dropped.now.a.items c.args.dropped.now.b.items })
    (record { out = c.loop.out; taps = _; dropped = by_stream c.loop.dropped.a.items c.loop.dropped.b.items })
    (values_of c.pop.new.self) c.loop.cutters now c.in-Some-stop.stop
    ((λ j. files_stop_if (sym pops.0.of_a.stop j) (sym pops.0.of_b.stop j)) ∙ sym c.stop.ensures ∙ c.in-Some-stop.is)
    (HasFed c.args.common.now.cascade.now c.end_both.new.pass) (λ f rows x. x.so_far) (λ f rows x. x.so_far)
    (record { out = c.end_both.new.out; taps = _; dropped = by_stream c.loop.dropped.a.items c.loop.dropped.b.items }) c.end_both.new.cutters c.end_both.result c.end_both.ensures.stop
    (c.end_both.ensures.takes now.items now.f now.rows may) (λ t. refl)

pub loop-preserved : goal.loop-preserved
loop-preserved g c =
    let laws = g.met.R.RowOut g.world.𝓛 g.world.𝓜 g.world.𝓡 ((λ s x. x), (λ x. x), (λ x. x), λ x. x) in
    let adds_up : AddsUp g.R.RowOut.after g.R.RowOut.part = record { after_none = laws.after_none; after_more = laws.after_more; part_later = laws.part_later; part_of_all = laws.part_of_all } in
    let before = c.loop.invariant in
    let pops = c.in-None-pop.ensures.pops (streams_of (plan_of c.args.common.now.cascade.now)) before.inlets_are in
    record {
      fed = files_still g.R.RowOut.after g.R.RowOut.part adds_up (plan_of c.args.common.now.cascade.now) (setting_of c.args.common.now.cascade.now).bundle (subst (λ n. 1 ≤ n) (sym c.requires.begins.is_size) c.requires.begins.some)
          (HasFed c.args.common.now.cascade.now c.loop.pass)
          (record { out = c.args.out.now; taps = _; dropped = by_stream c.args.dropped.now.a.items c.args.dropped.now.b.items })
          (record { out = c.loop.out; taps = _; dropped = by_stream c.loop.dropped.a.items c.loop.dropped.b.items })
          (values_of c.loop.inlets) c.loop.cutters before.fed
          (HasFed c.args.common.now.cascade.now c.step_or_yield.new.pass) (values_of c.pop.new.self) c.in-Ok-step_or_yield.ensures.feeder pops.1;
      inlets_are = pops.0;
      ring_a = c.in-None-pop.ensures.ring_a ∙ before.ring_a;
      ring_b = c.in-None-pop.ensures.ring_b ∙ before.ring_b;
      same = still_then c.args.common.now.cascade.now c.args.pass.now c.loop.pass c.step_or_yield.new.pass before.same c.in-Ok-step_or_yield.ensures.same;
      cause = before.cause;
      fewer = before.fewer;
    }

pub returns-in-Err-step_or_yield-clause-feeds : goal.returns-in-Err-step_or_yield-clause-feeds
returns-in-Err-step_or_yield-clause-feeds g c =
    let laws = g.met.R.RowOut g.world.𝓛 g.world.𝓜 g.world.𝓡 ((λ s x. x), (λ x. x), (λ x. x), λ x. x) in
    let adds_up : AddsUp g.R.RowOut.after g.R.RowOut.part = record { after_none = laws.after_none; after_more = laws.after_more; part_later = laws.part_later; part_of_all = laws.part_of_all } in
    let before = c.loop.invariant in
    let pops = c.in-None-pop.ensures.pops (streams_of (plan_of c.args.common.now.cascade.now)) before.inlets_are in
    files_wanting g.R.RowOut.after g.R.RowOut.part adds_up (plan_of c.args.common.now.cascade.now) (setting_of c.args.common.now.cascade.now).bundle (subst (λ n. 1 ≤ n) (sym c.requires.begins.is_size) c.requires.begins.some)
    (HasFed c.args.common.now.cascade.now c.loop.pass)
    (record { out = c.args.out.now; taps = _; dropped = by_stream c.args.dropped.now.a.items c.args.dropped.now.b.items })
    (record { out = c.loop.out; taps = _; dropped = by_stream c.loop.dropped.a.items c.loop.dropped.b.items })
    (values_of c.pop.new.self) c.loop.cutters
    (files_still g.R.RowOut.after g.R.RowOut.part adds_up (plan_of c.args.common.now.cascade.now) (setting_of c.args.common.now.cascade.now).bundle (subst (λ n. 1 ≤ n) (sym c.requires.begins.is_size) c.requires.begins.some)
    (HasFed c.args.common.now.cascade.now c.loop.pass)
    (record { out = c.args.out.now; taps = _; dropped = by_stream c.args.dropped.now.a.items c.args.dropped.now.b.items })
    (record { out = c.loop.out; taps = _; dropped = by_stream c.loop.dropped.a.items c.loop.dropped.b.items })
    (values_of c.loop.inlets) c.loop.cutters before.fed
    (HasFed c.args.common.now.cascade.now c.loop.pass) (values_of c.pop.new.self) (λ f rows x. x) pops.1)
    (λ f rows x. x.so_far)
