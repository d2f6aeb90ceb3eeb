use Rattle.std.proofs.Common.{refl}
use Rattle.sb_feed.proofs.GivesInTurn.{AddsUp}
use Rattle.sb_feed.proofs.ItemTakes.{quiet_item, quiet_lost}
use Rattle.sb_feed.proofs.taking.take_item.Goals as goal

pub returns-in-Rec-clause-takes : goal.returns-in-Rec-clause-takes
returns-in-Rec-clause-takes g c =
    rw c.in-Rec.is c.take_record.ensures.takes

pub returns-in-Mark-clause-takes : goal.returns-in-Mark-clause-takes
returns-in-Mark-clause-takes g c =
    rw c.in-Mark.is c.take_mark.ensures.takes

pub returns-in-Skip-clause-takes : goal.returns-in-Skip-clause-takes
returns-in-Skip-clause-takes g c =
    let laws = g.met.R.RowOut g.world.𝓛 g.world.𝓜 g.world.𝓡 ((λ s x. x), (λ x. x), (λ x. x), λ x. x) in
    let adds_up : AddsUp g.R.RowOut.after g.R.RowOut.part = record { after_none = laws.after_none; after_more = laws.after_more; part_later = laws.part_later; part_of_all = laws.part_of_all } in
    rw c.in-Skip.is (quiet_item g.R.RowOut.after g.R.RowOut.part adds_up (g.E.Engine.stands c.args.engine.now) (g.E.Engine.plan c.args.engine.now) (g.E.Engine.size c.args.engine.now) c.args.cutters.now _ c.args.out.now _ refl refl refl refl)

pub returns-in-Ok-clause-takes : goal.returns-in-Ok-clause-takes
returns-in-Ok-clause-takes g c =
    let laws = g.met.R.RowOut g.world.𝓛 g.world.𝓜 g.world.𝓡 ((λ s x. x), (λ x. x), (λ x. x), λ x. x) in
    let adds_up : AddsUp g.R.RowOut.after g.R.RowOut.part = record { after_none = laws.after_none; after_more = laws.after_more; part_later = laws.part_later; part_of_all = laws.part_of_all } in
    rw c.in-Late.is (quiet_item g.R.RowOut.after g.R.RowOut.part adds_up (g.E.Engine.stands c.args.engine.now) (g.E.Engine.plan c.args.engine.now) (g.E.Engine.size c.args.engine.now) c.args.cutters.now _ c.args.out.now _ refl refl refl refl)

pub returns-in-Err-clause-takes : goal.returns-in-Err-clause-takes
returns-in-Err-clause-takes g c =
    let laws = g.met.R.RowOut g.world.𝓛 g.world.𝓜 g.world.𝓡 ((λ s x. x), (λ x. x), (λ x. x), λ x. x) in
    let adds_up : AddsUp g.R.RowOut.after g.R.RowOut.part = record { after_none = laws.after_none; after_more = laws.after_more; part_later = laws.part_later; part_of_all = laws.part_of_all } in
    rw c.in-Late.is (quiet_lost g.R.RowOut.after g.R.RowOut.part adds_up (g.E.Engine.stands c.args.engine.now) (g.E.Engine.plan c.args.engine.now) (g.E.Engine.size c.args.engine.now) c.args.cutters.now _ c.args.out.now _ refl refl refl refl (g.met.E.Engine.so_far c.args.engine.now))
