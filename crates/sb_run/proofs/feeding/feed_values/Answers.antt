use Rattle.std.proofs.Common.{[], ◌∙◌, ◌∷◌, ◌++◌, ◌≡◌, arith, refl, subst}
use Rattle.sb_engines.specs.worker.cascade.Calls.{plan_of, setting_of}
use Rattle.sb_engines.proofs.feeds.one_feed.GiveLaws.{cause_of_none, cause_then}
use Rattle.sb_engines.proofs.feeds.one_feed.GivesInTurn.{AddsUp}
use Rattle.sb_engines.specs.feeds.InputEnds.{values_received}
use Rattle.sb_engines.specs.feeds.InputFed.{fed_by}
use Rattle.sb_engines.specs.Feeders.{HasFed}
use Rattle.sb_engines.specs.EngineLaws.{still_here, still_then}
use Rattle.sb_run.proofs.PoppedSoFar.{nothing_popped, popped_all, popped_fails, popped_lack, popped_more, popped_still, popped_stops, value_may_come}
use Rattle.sb_run.proofs.feeding.feed_values.Goals as goal

pub loop-init : goal.loop-init
loop-init g c =
    let laws = g.met.R.RowOut g.world.𝓛 g.world.𝓜 g.world.𝓡 ((λ s x. x), (λ x. x), (λ x. x), λ x. x) in
    let adds_up : AddsUp g.R.RowOut.after g.R.RowOut.part = record { after_none = laws.after_none; after_more = laws.after_more; part_later = laws.part_later; part_of_all = laws.part_of_all } in
    record {
      fed = nothing_popped g.R.RowOut.after g.R.RowOut.part adds_up (plan_of c.args.common.now.cascade.now) (setting_of c.args.common.now.cascade.now).bundle
          (HasFed c.args.common.now.cascade.now c.args.pass.now) (record { out = c.args.out.now; taps = _ })
          (values_received c.args.inward.now) c.requires.nothing c.requires.begins;
      ring = refl;
      same = still_here c.args.common.now.cascade.now c.args.pass.now c.requires.begins.ready;
      cause = cause_of_none (g.R.RowOut.row_state c.args.out.now) _ (λ e. cc e);
      fewer = omega arith;
    }

pub returns-in-Some-Stop-clause-feeds : goal.returns-in-Some-Stop-clause-feeds
returns-in-Some-Stop-clause-feeds g c =
    let laws = g.met.R.RowOut g.world.𝓛 g.world.𝓜 g.world.𝓡 ((λ s x. x), (λ x. x), (λ x. x), λ x. x) in
    let adds_up : AddsUp g.R.RowOut.after g.R.RowOut.part = record { after_none = laws.after_none; after_more = laws.after_more; part_later = laws.part_later; part_of_all = laws.part_of_all } in
    let h = c.loop.invariant.fed in
    popped_all g.R.RowOut.after g.R.RowOut.part adds_up (plan_of c.args.common.now.cascade.now) (setting_of c.args.common.now.cascade.now).bundle
    (HasFed c.args.common.now.cascade.now c.loop.pass) (λ f rows x. x.so_far)
    (record { out = c.args.out.now; taps = _ })
    (record { out = c.loop.out; taps = _ })
    (values_received c.loop.inward) h
    c.in-Some-Stop.stop (values_received c.pop.new.inward) (subst (λ x. values_received c.pop.new.inward ≡ values_received c.loop.inward ++ x ∷ []) c.in-Some-Stop.field-0-is c.in-Some-Stop.ensures.some)

pub returns-in-Some-NoMemory-clause-feeds : goal.returns-in-Some-NoMemory-clause-feeds
returns-in-Some-NoMemory-clause-feeds g c =
    let laws = g.met.R.RowOut g.world.𝓛 g.world.𝓜 g.world.𝓡 ((λ s x. x), (λ x. x), (λ x. x), λ x. x) in
    let adds_up : AddsUp g.R.RowOut.after g.R.RowOut.part = record { after_none = laws.after_none; after_more = laws.after_more; part_later = laws.part_later; part_of_all = laws.part_of_all } in
    let h = c.loop.invariant.fed in
    popped_lack g.R.RowOut.after g.R.RowOut.part adds_up (plan_of c.args.common.now.cascade.now) (setting_of c.args.common.now.cascade.now).bundle
    (HasFed c.args.common.now.cascade.now c.loop.pass) (λ f rows x. x.so_far)
    (record { out = c.args.out.now; taps = _ })
    (record { out = c.loop.out; taps = _ })
    (values_received c.loop.inward) h
    (values_received c.pop.new.inward) (subst (λ x. values_received c.pop.new.inward ≡ values_received c.loop.inward ++ x ∷ []) c.in-Some-NoMemory.field-0-is c.in-Some-NoMemory.ensures.some)

pub take-requires-clause-may : goal.take-requires-clause-may
take-requires-clause-may g c κs within =
    let laws = g.met.R.RowOut g.world.𝓛 g.world.𝓜 g.world.𝓡 ((λ s x. x), (λ x. x), (λ x. x), λ x. x) in
    let adds_up : AddsUp g.R.RowOut.after g.R.RowOut.part = record { after_none = laws.after_none; after_more = laws.after_more; part_later = laws.part_later; part_of_all = laws.part_of_all } in
    let h = c.loop.invariant.fed in (
      fed_by h.popped,
      h.rows,
      h.stand,
      value_may_come g.R.RowOut.after g.R.RowOut.part adds_up (plan_of c.args.common.now.cascade.now) (setting_of c.args.common.now.cascade.now).bundle
          (HasFed c.args.common.now.cascade.now c.loop.pass) (λ f rows x. x.so_far)
          (record { out = c.args.out.now; taps = _ })
          (record { out = c.loop.out; taps = _ })
          (values_received c.loop.inward) h
          c.in-Some-pop.next c.in-Some-pop.ensures.follows,
    )

pub loop-preserved-in-Ok : goal.loop-preserved-in-Ok
loop-preserved-in-Ok g c =
    let laws = g.met.R.RowOut g.world.𝓛 g.world.𝓜 g.world.𝓡 ((λ s x. x), (λ x. x), (λ x. x), λ x. x) in
    let adds_up : AddsUp g.R.RowOut.after g.R.RowOut.part = record { after_none = laws.after_none; after_more = laws.after_more; part_later = laws.part_later; part_of_all = laws.part_of_all } in
    let before = c.loop.invariant in
    let h = before.fed in
    record {
      fed = popped_more g.R.RowOut.after g.R.RowOut.part adds_up (plan_of c.args.common.now.cascade.now) (setting_of c.args.common.now.cascade.now).bundle
          (HasFed c.args.common.now.cascade.now c.loop.pass) (λ f rows x. x.so_far)
          (record { out = c.args.out.now; taps = _ })
          (record { out = c.loop.out; taps = _ })
          (values_received c.loop.inward) h
          c.in-Some-pop.next c.in-Some-pop.ensures.follows
          (record { out = c.take.new.out; taps = _ }) (values_received c.pop.new.inward) c.in-Some-pop.ensures.some
          (HasFed c.args.common.now.cascade.now c.take.new.pass) (λ f rows x. x.so_far)
          (c.in-Ok.ensures.gives (fed_by h.popped) h.rows h.stand (value_may_come g.R.RowOut.after g.R.RowOut.part adds_up (plan_of c.args.common.now.cascade.now) (setting_of c.args.common.now.cascade.now).bundle
          (HasFed c.args.common.now.cascade.now c.loop.pass) (λ f rows x. x.so_far)
          (record { out = c.args.out.now; taps = _ })
          (record { out = c.loop.out; taps = _ })
          (values_received c.loop.inward) h
          c.in-Some-pop.next c.in-Some-pop.ensures.follows));
      ring = c.in-Some-pop.ensures.ring ∙ before.ring;
      same = still_then c.args.common.now.cascade.now c.args.pass.now c.loop.pass c.take.new.pass before.same c.in-Ok.ensures.same;
      cause = cause_then _ _ _ _ _ before.cause c.in-Ok.ensures.cause;
      fewer = let a = before.fewer in let b = c.in-Ok.ensures.fewer in omega (arith, a, b);
    }

pub returns-in-Err-clause-feeds : goal.returns-in-Err-clause-feeds
returns-in-Err-clause-feeds g c =
    let laws = g.met.R.RowOut g.world.𝓛 g.world.𝓜 g.world.𝓡 ((λ s x. x), (λ x. x), (λ x. x), λ x. x) in
    let adds_up : AddsUp g.R.RowOut.after g.R.RowOut.part = record { after_none = laws.after_none; after_more = laws.after_more; part_later = laws.part_later; part_of_all = laws.part_of_all } in
    let h = c.loop.invariant.fed in
    popped_fails g.R.RowOut.after g.R.RowOut.part adds_up (plan_of c.args.common.now.cascade.now) (setting_of c.args.common.now.cascade.now).bundle
    (HasFed c.args.common.now.cascade.now c.loop.pass) (λ f rows x. x.so_far)
    (record { out = c.args.out.now; taps = _ })
    (record { out = c.loop.out; taps = _ })
    (values_received c.loop.inward) h
    c.in-Some-pop.next c.in-Some-pop.ensures.follows
    (record { out = c.take.new.out; taps = _ }) (values_received c.pop.new.inward) c.in-Some-pop.ensures.some
    c.in-Err.why (c.in-Err.ensures.gives (fed_by h.popped) h.rows h.stand (value_may_come g.R.RowOut.after g.R.RowOut.part adds_up (plan_of c.args.common.now.cascade.now) (setting_of c.args.common.now.cascade.now).bundle
    (HasFed c.args.common.now.cascade.now c.loop.pass) (λ f rows x. x.so_far)
    (record { out = c.args.out.now; taps = _ })
    (record { out = c.loop.out; taps = _ })
    (values_received c.loop.inward) h
    c.in-Some-pop.next c.in-Some-pop.ensures.follows))

pub idle-requires-clause-feeder : goal.idle-requires-clause-feeder
idle-requires-clause-feeder g c κs within = let h = c.loop.invariant.fed in (fed_by h.popped, h.rows, h.stand)

pub loop-preserved : goal.loop-preserved
loop-preserved g c =
    let laws = g.met.R.RowOut g.world.𝓛 g.world.𝓜 g.world.𝓡 ((λ s x. x), (λ x. x), (λ x. x), λ x. x) in
    let adds_up : AddsUp g.R.RowOut.after g.R.RowOut.part = record { after_none = laws.after_none; after_more = laws.after_more; part_later = laws.part_later; part_of_all = laws.part_of_all } in
    let before = c.loop.invariant in
    let h = before.fed in
    record {
      fed = popped_still g.R.RowOut.after g.R.RowOut.part adds_up (plan_of c.args.common.now.cascade.now) (setting_of c.args.common.now.cascade.now).bundle
          (HasFed c.args.common.now.cascade.now c.loop.pass) (λ f rows x. x.so_far)
          (record { out = c.args.out.now; taps = _ })
          (record { out = c.loop.out; taps = _ })
          (values_received c.loop.inward) h
          (record { out = c.idle.new.out; taps = _ }) (values_received c.idle.new.inward) (c.in-Ok-idle.ensures.none ∙ c.in-None-pop.ensures.none)
          (HasFed c.args.common.now.cascade.now c.idle.new.pass) (λ f rows x. x.so_far) (c.in-Ok-idle.ensures.gives (fed_by h.popped) h.rows h.stand);
      ring = c.in-Ok-idle.ensures.ring ∙ c.in-None-pop.ensures.ring ∙ before.ring;
      same = still_then c.args.common.now.cascade.now c.args.pass.now c.loop.pass c.idle.new.pass before.same c.in-Ok-idle.ensures.same;
      cause = cause_then _ _ _ _ _ before.cause c.in-Ok-idle.ensures.cause;
      fewer = let a = before.fewer in let b = c.in-Ok-idle.ensures.fewer in omega (arith, a, b);
    }

pub returns-in-Err-idle-clause-feeds : goal.returns-in-Err-idle-clause-feeds
returns-in-Err-idle-clause-feeds g c =
    let laws = g.met.R.RowOut g.world.𝓛 g.world.𝓜 g.world.𝓡 ((λ s x. x), (λ x. x), (λ x. x), λ x. x) in
    let adds_up : AddsUp g.R.RowOut.after g.R.RowOut.part = record { after_none = laws.after_none; after_more = laws.after_more; part_later = laws.part_later; part_of_all = laws.part_of_all } in
    let h = c.loop.invariant.fed in
    popped_stops g.R.RowOut.after g.R.RowOut.part adds_up (plan_of c.args.common.now.cascade.now) (setting_of c.args.common.now.cascade.now).bundle
    (HasFed c.args.common.now.cascade.now c.loop.pass) (λ f rows x. x.so_far)
    (record { out = c.args.out.now; taps = _ })
    (record { out = c.loop.out; taps = _ })
    (values_received c.loop.inward) h
    (record { out = c.idle.new.out; taps = _ }) (values_received c.idle.new.inward) (c.in-Err-idle.ensures.none ∙ c.in-None-pop.ensures.none)
    c.in-Err-idle.why (c.in-Err-idle.ensures.gives (fed_by h.popped) h.rows h.stand)
