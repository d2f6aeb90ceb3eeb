use Rattle.sb_alone.proofs.feeds.one_feed.GivesInTurn.{AddsUp}
use Rattle.sb_engines.specs.Feeders.{HasFed}
use Rattle.sb_alone.proofs.Sharing.{feeds-as}
use Rattle.sb_engines.proofs.Returned.{feeds-wanting}
use Rattle.sb_engines.proofs.shared.feeding.feed.Goals as goal

pub returns-in-Ok-end_work-clause-feeds : goal.returns-in-Ok-end_work-clause-feeds
returns-in-Ok-end_work-clause-feeds g c =
    let cascade = c.args.common.now.cascade.now in
    feeds-as g.R.RowOut.after cascade.setting.plan c.args.common.now.size _ _ (HasFed cascade c.feed_lines.new.pass) (HasFed cascade c.end_work.new.pass) c.args.out.now c.feed_lines.new.out _ _ _ _ c.in-Ok.stop
    c.in-Ok-end_work.ensures.feeder c.in-Ok.ensures.feeds

pub returns-in-Err-end_work-clause-feeds : goal.returns-in-Err-end_work-clause-feeds
returns-in-Err-end_work-clause-feeds g c =
    let laws = g.met.R.RowOut g.world.𝓛 g.world.𝓜 g.world.𝓡 ((λ s x. x), (λ x. x), (λ x. x), λ x. x) in
    let adds_up : AddsUp g.R.RowOut.after g.R.RowOut.part = record { after_none = laws.after_none; after_more = laws.after_more; part_later = laws.part_later; part_of_all = laws.part_of_all } in
    feeds-wanting g.R.RowOut.after g.R.RowOut.part adds_up c.args.common.now.cascade.now.setting.plan c.args.common.now.size _ _ (HasFed c.args.common.now.cascade.now c.feed_lines.new.pass) c.args.out.now c.feed_lines.new.out _ _ _ _ c.in-Ok.stop
    c.in-Ok.ensures.feeds (λ f rows h. h.so_far)
