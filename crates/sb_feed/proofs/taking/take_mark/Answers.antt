use Rattle.std.proofs.Common.{subst, sym, ◌∙◌}
use Rattle.sb_feed.proofs.GivesInTurn.{AddsUp}
use Rattle.sb_feed.proofs.ItemTakes.{bundle_stops, lone_mark, mark_after_bundle}
use Rattle.sb_feed.specs.Feeds.{MaySeal, with_bundle}
use Rattle.sb_feed.proofs.ItemSteps.{last_arrives, may_seal_then}
use Rattle.sb_feed.proofs.RowsSoFar.{so_far_by}
use Rattle.sb_feed.proofs.taking.take_mark.Goals as goal

pub returns-in-Ok-clause-takes : goal.returns-in-Ok-clause-takes
returns-in-Ok-clause-takes g c =
    let laws = g.met.R.RowOut g.world.𝓛 g.world.𝓜 g.world.𝓡 ((λ s x. x), (λ x. x), (λ x. x), λ x. x) in
    let adds_up : AddsUp g.R.RowOut.after g.R.RowOut.part = record { after_none = laws.after_none; after_more = laws.after_more; part_later = laws.part_later; part_of_all = laws.part_of_all } in
    mark_after_bundle g.R.RowOut.after g.R.RowOut.part adds_up (g.E.Engine.stands c.args.engine.now) (g.E.Engine.plan c.args.engine.now) (g.E.Engine.size c.args.engine.now) c.args.cutters.now
    (g.E.Engine.stands c.arrive.new.engine) (g.E.Engine.stands c.seal.new.engine) (g.E.Engine.plan c.arrive.new.engine) c.mark.new.self c.args.stream c.args.mark c.mark.result c.in-Some.bundle c.args.out.now c.arrive.new.out c.seal.new.out _ _ _ c.seal.result
    (g.met.E.Engine.same_plan _ _ c.in-Ok.ensures.same) c.in-Some.is c.mark.ensures.given c.mark.ensures.after (rw c.in-Some.is c.in-Some.ensures.sound) c.in-Ok.ensures.gives c.seal.ensures.gives
    (so_far_by _ _ (g.E.Engine.stands c.arrive.new.engine) (g.met.E.Engine.same_plan _ _ c.in-Ok.ensures.same) (g.met.E.Engine.so_far c.arrive.new.engine))
    (so_far_by _ _ (g.E.Engine.stands c.seal.new.engine) (g.met.E.Engine.same_plan _ _ c.seal.ensures.same ∙ g.met.E.Engine.same_plan _ _ c.in-Ok.ensures.same) (g.met.E.Engine.so_far c.seal.new.engine))

pub returns-in-Err-clause-takes : goal.returns-in-Err-clause-takes
returns-in-Err-clause-takes g c =
    let laws = g.met.R.RowOut g.world.𝓛 g.world.𝓜 g.world.𝓡 ((λ s x. x), (λ x. x), (λ x. x), λ x. x) in
    let adds_up : AddsUp g.R.RowOut.after g.R.RowOut.part = record { after_none = laws.after_none; after_more = laws.after_more; part_later = laws.part_later; part_of_all = laws.part_of_all } in
    bundle_stops g.R.RowOut.after g.R.RowOut.part adds_up (g.E.Engine.stands c.args.engine.now) (g.E.Engine.plan c.args.engine.now) (g.E.Engine.size c.args.engine.now) c.args.cutters.now
    c.args.stream c.args.mark c.mark.result c.in-Some.bundle c.args.out.now c.arrive.new.out _ _ c.in-Err.why
    c.in-Some.is c.mark.ensures.given (rw c.in-Some.is c.in-Some.ensures.sound) c.in-Err.ensures.gives

pub returns-in-None-clause-takes : goal.returns-in-None-clause-takes
returns-in-None-clause-takes g c =
    let laws = g.met.R.RowOut g.world.𝓛 g.world.𝓜 g.world.𝓡 ((λ s x. x), (λ x. x), (λ x. x), λ x. x) in
    let adds_up : AddsUp g.R.RowOut.after g.R.RowOut.part = record { after_none = laws.after_none; after_more = laws.after_more; part_later = laws.part_later; part_of_all = laws.part_of_all } in
    lone_mark g.R.RowOut.after g.R.RowOut.part adds_up (g.E.Engine.stands c.args.engine.now) (g.E.Engine.plan c.args.engine.now) (g.E.Engine.size c.args.engine.now) c.args.cutters.now
    (g.E.Engine.stands c.seal-in-None.new.engine) c.mark.new.self c.args.stream c.args.mark c.mark.result c.args.out.now c.seal-in-None.new.out _ _ c.seal-in-None.result
    c.in-None.is c.mark.ensures.given c.mark.ensures.after c.seal-in-None.ensures.gives

pub seal-requires-clause-may : goal.seal-requires-clause-may
seal-requires-clause-may g c κs within =
    let (items, f, rows, may) = c.requires.may in
    let last = sym c.mark.ensures.given ∙ c.in-Some.is in
    let came = last_arrives (g.E.Engine.plan c.args.engine.now) (g.E.Engine.size c.args.engine.now) items c.args.stream c.in-Some.bundle f c.args.cutters.now may.fed may.timely.0 may.few last c.in-Some.ensures.sound in
    let first = c.in-Ok.ensures.gives f rows may.stand came in
    let then = may_seal_then (g.E.Engine.plan c.args.engine.now) (g.E.Engine.size c.args.engine.now) items c.args.stream c.args.mark c.in-Some.bundle f c.args.cutters.now may.fed may.timely.0 may.timely.1 may.timely.2 in
    (with_bundle c.args.stream c.in-Some.bundle f, _, first.stand, subst (λ p. MaySeal p (with_bundle c.args.stream c.in-Some.bundle f) c.args.stream c.args.mark) (sym (g.met.E.Engine.same_plan _ _ c.in-Ok.ensures.same)) then)
