use Rattle.std.proofs.Common.{◌++◌, refl, subst, sym}
use Rattle.sb_engines.specs.worker.cascade.Calls.{plan_of}
use Rattle.sb_engines.proofs.feeds.one_feed.GivesInTurn.{AddsUp, gives_due}
use Rattle.sb_engines.specs.Feeders.{HasFed}
use Rattle.sb_run.proofs.feeding.give_ready.Goals as goal

pub returns-clause-gives : goal.returns-clause-gives
returns-clause-gives g c = λ f before h.
    let laws = g.met.R.RowOut g.world.𝓛 g.world.𝓜 g.world.𝓡 ((λ s x. x), (λ x. x), (λ x. x), λ x. x) in
    let adds_up : AddsUp g.R.RowOut.after g.R.RowOut.part = record { after_none = laws.after_none; after_more = laws.after_more; part_later = laws.part_later; part_of_all = laws.part_of_all } in
    let plan = plan_of c.args.common.now.cascade.now in
    let stand = subst (λ l. HasFed c.args.common.now.cascade.now c.take_out-rows.new.pass f (before ++ l)) (sym c.deref.ensures.value) (c.take_out-rows.ensures.feeder f before h) in
    gives_due g.R.RowOut.after g.R.RowOut.part adds_up plan plan (HasFed c.args.common.now.cascade.now c.take_out-rows.new.pass f)
    c.args.out.now c.give_out.new.out _ _ f before c.deref.result.now c.give_out.result
    refl stand.so_far stand c.give_out.ensures.writes c.give_out.ensures.offers
