use Rattle.sb_alone.proofs.feeds.one_feed.GivesInTurn.{AddsUp}
use Rattle.sb_engines.proofs.Returned.{back-done, back-stopped, back-wanting}
use Rattle.sb_engines.proofs.shared.handing.come_back.Goals as goal

pub returns-in-Err-clause-comes : goal.returns-in-Err-clause-comes
returns-in-Err-clause-comes g c f rows h =
    let laws = g.met.R.RowOut g.world.𝓛 g.world.𝓜 g.world.𝓡 ((λ s x. x), (λ x. x), (λ x. x), λ x. x) in
    let adds_up : AddsUp g.R.RowOut.after g.R.RowOut.part = record { after_none = laws.after_none; after_more = laws.after_more; part_later = laws.part_later; part_of_all = laws.part_of_all } in
    back-wanting g.R.RowOut.after g.R.RowOut.part adds_up c.args.cascade c.args.passes.feeder c.args.out.now _ f rows h

pub returns-in-Ok-flow-clause-comes : goal.returns-in-Ok-flow-clause-comes
returns-in-Ok-flow-clause-comes g c f rows h =
    let laws = g.met.R.RowOut g.world.𝓛 g.world.𝓜 g.world.𝓡 ((λ s x. x), (λ x. x), (λ x. x), λ x. x) in
    let adds_up : AddsUp g.R.RowOut.after g.R.RowOut.part = record { after_none = laws.after_none; after_more = laws.after_more; part_later = laws.part_later; part_of_all = laws.part_of_all } in
    let back = c.in-Ok.ensures in
    back-done g.R.RowOut.after g.R.RowOut.part adds_up c.args.cascade c.args.passes.feeder c.args.out.now _ f rows h c.flow.new.out _ c.in-Ok.hand c.flow.new.hand back.setting c.in-Ok-flow.ensures.same (tt {0})
    (c.in-Ok-flow.ensures.gives f rows (back.whole f rows h))

pub returns-in-Err-flow-clause-comes : goal.returns-in-Err-flow-clause-comes
returns-in-Err-flow-clause-comes g c f rows h =
    let laws = g.met.R.RowOut g.world.𝓛 g.world.𝓜 g.world.𝓡 ((λ s x. x), (λ x. x), (λ x. x), λ x. x) in
    let adds_up : AddsUp g.R.RowOut.after g.R.RowOut.part = record { after_none = laws.after_none; after_more = laws.after_more; part_later = laws.part_later; part_of_all = laws.part_of_all } in
    let back = c.in-Ok.ensures in
    back-stopped g.R.RowOut.after g.R.RowOut.part adds_up c.args.cascade c.args.passes.feeder c.args.out.now _ f rows h c.flow.new.out _ c.in-Ok.hand c.flow.new.hand back.setting c.in-Err-flow.ensures.same (Unit {0}) c.in-Err-flow.why
    (c.in-Err-flow.ensures.gives f rows (back.whole f rows h))
