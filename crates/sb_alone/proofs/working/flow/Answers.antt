use Rattle.std.proofs.Common.{◌++◌, subst, sym}
use Rattle.sb_feeds.proofs.one_feed.GivesInTurn.{AddsUp, gives_due, stops_none}
use Rattle.sb_alone.specs.Rested.{IsRested, IsRestedSoFar}
use Rattle.sb_alone.proofs.working.flow.Goals as goal

pub returns-in-Err-clause-gives : goal.returns-in-Err-clause-gives
returns-in-Err-clause-gives g c = λ f before whole so.
    let laws = g.met.R.RowOut g.world.𝓛 g.world.𝓜 g.world.𝓡 ((λ s x. x), (λ x. x), (λ x. x), λ x. x) in
    stops_none g.R.RowOut.after g.R.RowOut.part (record { after_none = laws.after_none; after_more = laws.after_more; part_later = laws.part_later; part_of_all = laws.part_of_all }) c.args.hand.now.plan c.args.out.now _ f before so

pub returns-in-Ok-clause-gives : goal.returns-in-Ok-clause-gives
returns-in-Ok-clause-gives g c = λ f before whole so.
    let laws = g.met.R.RowOut g.world.𝓛 g.world.𝓜 g.world.𝓡 ((λ s x. x), (λ x. x), (λ x. x), λ x. x) in
    let adds_up : AddsUp g.R.RowOut.after g.R.RowOut.part = record { after_none = laws.after_none; after_more = laws.after_more; part_later = laws.part_later; part_of_all = laws.part_of_all } in
    let off = c.in-Ok.ensures in
    let stand = subst (λ l. IsRestedSoFar c.work_off.new.hand f (before ++ l)) (sym c.deref.ensures.value) (off.rests f before whole) in
    gives_due g.R.RowOut.after g.R.RowOut.part adds_up c.args.hand.now.plan c.work_off.new.hand.plan (IsRested c.work_off.new.hand f)
    c.args.out.now c.give_out.new.out _ _ f before c.deref.result.now c.give_out.result
    off.same.plan stand.so_far stand.rested c.give_out.ensures.writes c.give_out.ensures.offers
