use Rattle.sb_feed.proofs.GivesInTurn.{AddsUp}
use Rattle.sb_feed.proofs.ItemTakes.{full_record, held_record, lost_record}
use Rattle.sb_feed.proofs.taking.take_record.Goals as goal

pub returns-in-Ok-Some-clause-takes : goal.returns-in-Ok-Some-clause-takes
returns-in-Ok-Some-clause-takes g c =
    let laws = g.met.R.RowOut g.world.𝓛 g.world.𝓜 g.world.𝓡 ((λ s x. x), (λ x. x), (λ x. x), λ x. x) in
    let adds_up : AddsUp g.R.RowOut.after g.R.RowOut.part = record { after_none = laws.after_none; after_more = laws.after_more; part_later = laws.part_later; part_of_all = laws.part_of_all } in
    full_record g.R.RowOut.after g.R.RowOut.part adds_up (g.E.Engine.stands c.args.engine.now) (g.E.Engine.plan c.args.engine.now) (g.E.Engine.size c.args.engine.now) c.args.cutters.now
    (g.E.Engine.stands c.arrive.new.engine) c.push.new.self c.args.stream c.args.next c.in-Ok-Some.field-0 c.in-Ok-Some.bundle c.args.out.now c.arrive.new.out _ _ c.arrive.result
    c.in-Ok-Some.field-0-is c.in-Ok-Some.ensures.given c.in-Ok-Some.ensures.after c.in-Ok-Some.ensures.sound c.arrive.ensures.gives

pub returns-in-Ok-None-clause-takes : goal.returns-in-Ok-None-clause-takes
returns-in-Ok-None-clause-takes g c =
    let laws = g.met.R.RowOut g.world.𝓛 g.world.𝓜 g.world.𝓡 ((λ s x. x), (λ x. x), (λ x. x), λ x. x) in
    let adds_up : AddsUp g.R.RowOut.after g.R.RowOut.part = record { after_none = laws.after_none; after_more = laws.after_more; part_later = laws.part_later; part_of_all = laws.part_of_all } in
    held_record g.R.RowOut.after g.R.RowOut.part adds_up (g.E.Engine.stands c.args.engine.now) (g.E.Engine.plan c.args.engine.now) (g.E.Engine.size c.args.engine.now) c.args.cutters.now
    c.push.new.self c.args.stream c.args.next c.in-Ok-None.field-0 c.args.out.now _ c.in-Ok-None.field-0-is c.in-Ok-None.ensures.given c.in-Ok-None.ensures.after

pub returns-in-Err-clause-takes : goal.returns-in-Err-clause-takes
returns-in-Err-clause-takes g c =
    let laws = g.met.R.RowOut g.world.𝓛 g.world.𝓜 g.world.𝓡 ((λ s x. x), (λ x. x), (λ x. x), λ x. x) in
    let adds_up : AddsUp g.R.RowOut.after g.R.RowOut.part = record { after_none = laws.after_none; after_more = laws.after_more; part_later = laws.part_later; part_of_all = laws.part_of_all } in
    lost_record g.R.RowOut.after g.R.RowOut.part adds_up (g.E.Engine.stands c.args.engine.now) (g.E.Engine.plan c.args.engine.now) (g.E.Engine.size c.args.engine.now) c.args.cutters.now
    c.args.stream c.args.next c.args.out.now _ (g.met.E.Engine.so_far c.args.engine.now)
