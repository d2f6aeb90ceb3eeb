use Rattle.sb_engines.specs.worker.cascade.Calls.{plan_of}
use Rattle.sb_engines.proofs.feeds.one_feed.GivesInTurn.{AddsUp, gives_none, stops_none}
use Rattle.sb_engines.specs.Feeders.{HasFed}
use Rattle.sb_run.proofs.feeding.idle.Goals as goal

pub returns-in-Ok-Bundle-clause-gives : goal.returns-in-Ok-Bundle-clause-gives
returns-in-Ok-Bundle-clause-gives g c = λ f rows h.
    let laws = g.met.R.RowOut g.world.𝓛 g.world.𝓜 g.world.𝓡 ((λ s x. x), (λ x. x), (λ x. x), λ x. x) in
    let adds_up : AddsUp g.R.RowOut.after g.R.RowOut.part = record { after_none = laws.after_none; after_more = laws.after_more; part_later = laws.part_later; part_of_all = laws.part_of_all } in
    gives_none g.R.RowOut.after g.R.RowOut.part adds_up (HasFed c.args.common.now.cascade.now c.step_too.new.pass f) c.args.out.now _ rows (c.in-Ok-Bundle.ensures.feeder f rows h)

pub give_ready-requires-clause-feeder : goal.give_ready-requires-clause-feeder
give_ready-requires-clause-feeder g c κs within =
    let (f, rows, h) = c.requires.feeder in
    (f, rows, c.in-Ok-Nothing.ensures.feeder f rows h)

pub returns-then-not-is_spent-clause-gives : goal.returns-then-not-is_spent-clause-gives
returns-then-not-is_spent-clause-gives g c = λ f rows h.
    let laws = g.met.R.RowOut g.world.𝓛 g.world.𝓜 g.world.𝓡 ((λ s x. x), (λ x. x), (λ x. x), λ x. x) in
    let adds_up : AddsUp g.R.RowOut.after g.R.RowOut.part = record { after_none = laws.after_none; after_more = laws.after_more; part_later = laws.part_later; part_of_all = laws.part_of_all } in
    gives_none g.R.RowOut.after g.R.RowOut.part adds_up (HasFed c.args.common.now.cascade.now c.step_too.new.pass f) c.args.out.now _ rows (c.in-Ok-Nothing.ensures.feeder f rows h)

pub returns-in-Ok-clause-gives : goal.returns-in-Ok-clause-gives
returns-in-Ok-clause-gives g c = λ f rows h. c.in-Ok.ensures.gives f rows (c.in-Ok-Nothing.ensures.feeder f rows h)

pub returns-in-Err-give_ready-clause-gives : goal.returns-in-Err-give_ready-clause-gives
returns-in-Err-give_ready-clause-gives g c = λ f rows h. c.in-Err-give_ready.ensures.gives f rows (c.in-Ok-Nothing.ensures.feeder f rows h)

pub returns-in-Err-clause-gives : goal.returns-in-Err-clause-gives
returns-in-Err-clause-gives g c = λ f rows h.
    let laws = g.met.R.RowOut g.world.𝓛 g.world.𝓜 g.world.𝓡 ((λ s x. x), (λ x. x), (λ x. x), λ x. x) in
    let adds_up : AddsUp g.R.RowOut.after g.R.RowOut.part = record { after_none = laws.after_none; after_more = laws.after_more; part_later = laws.part_later; part_of_all = laws.part_of_all } in
    stops_none g.R.RowOut.after g.R.RowOut.part adds_up (plan_of c.args.common.now.cascade.now) c.args.out.now _ f rows h.so_far
