use Rattle.std.proofs.Common.{◌++◌, subst, sym}
use Rattle.sb_feed.specs.Feeds.{with_bundle}
use Rattle.sb_feed.proofs.GivesInTurn.{AddsUp, gives_due, stops_none}
use Rattle.sb_feed.proofs.RowsSoFar.{so_far_bundle}
use Rattle.sb_feed.proofs.coming.arrive.Goals as goal

pub returns-in-Ok-clause-gives : goal.returns-in-Ok-clause-gives
returns-in-Ok-clause-gives g c = λ f rows h may.
    let laws = g.met.R.RowOut g.world.𝓛 g.world.𝓜 g.world.𝓡 ((λ s x. x), (λ x. x), (λ x. x), λ x. x) in
    let adds_up : AddsUp g.R.RowOut.after g.R.RowOut.part = record { after_none = laws.after_none; after_more = laws.after_more; part_later = laws.part_later; part_of_all = laws.part_of_all } in
    let came = c.in-Ok.ensures in
    let then = with_bundle c.args.stream c.args.bundle f in
    let stand = came.gives f rows h may in
    let all = subst (λ l. g.E.Engine.stands c.arrive.new.self then (rows ++ l)) (sym c.deref.ensures.value) stand in
    gives_due g.R.RowOut.after g.R.RowOut.part adds_up (g.E.Engine.plan c.args.engine.now) (g.E.Engine.plan c.arrive.new.self) (g.E.Engine.stands c.arrive.new.self then)
    c.args.out.now c.give_out.new.out _ _ then rows c.deref.result.now c.give_out.result
    (g.met.E.Engine.same_plan c.args.engine.now c.arrive.new.self came.same) (g.met.E.Engine.so_far c.arrive.new.self then _ all) all c.give_out.ensures.writes c.give_out.ensures.offers

pub returns-in-Err-clause-gives : goal.returns-in-Err-clause-gives
returns-in-Err-clause-gives g c = λ f rows h may.
    let laws = g.met.R.RowOut g.world.𝓛 g.world.𝓜 g.world.𝓡 ((λ s x. x), (λ x. x), (λ x. x), λ x. x) in
    let adds_up : AddsUp g.R.RowOut.after g.R.RowOut.part = record { after_none = laws.after_none; after_more = laws.after_more; part_later = laws.part_later; part_of_all = laws.part_of_all } in
    stops_none g.R.RowOut.after g.R.RowOut.part adds_up (g.E.Engine.plan c.args.engine.now) c.args.out.now _ (with_bundle c.args.stream c.args.bundle f) rows
    (so_far_bundle (g.E.Engine.plan c.args.engine.now) (g.E.Engine.size c.args.engine.now) c.args.stream c.args.bundle f rows may (g.met.E.Engine.so_far c.args.engine.now f rows h))
