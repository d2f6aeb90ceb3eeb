use Rattle.sb_engines.specs.worker.cascade.Calls.{plan_of, setting_of}
use Rattle.sb_engines.proofs.feeds.one_feed.GivesInTurn.{AddsUp}
use Rattle.sb_engines.specs.Feeders.{HasFed}
use Rattle.sb_run.specs.Pops.{values_of}
use Rattle.sb_run.proofs.FilesSoFar.{files_as, files_without, part_grows}
use Rattle.sb_run.proofs.files.feeding.feed_files.Goals as goal

pub returns-in-Err-clause-feeds : goal.returns-in-Err-clause-feeds
returns-in-Err-clause-feeds g c =
    part_grows g.R.RowOut.after g.R.RowOut.part (plan_of c.args.common.now.cascade.now) (values_of c.feed_values.new.inlets) (values_of c.empty.new.self) c.args.out.now c.feed_values.new.out _ _ _ _ c.in-Err.why c.empty.ensures.grows c.in-Err.ensures.feeds

pub returns-in-Ok-end_work-clause-feeds : goal.returns-in-Ok-end_work-clause-feeds
returns-in-Ok-end_work-clause-feeds g c =
    let laws = g.met.R.RowOut g.world.𝓛 g.world.𝓜 g.world.𝓡 ((λ s x. x), (λ x. x), (λ x. x), λ x. x) in
    let adds_up : AddsUp g.R.RowOut.after g.R.RowOut.part = record { after_none = laws.after_none; after_more = laws.after_more; part_later = laws.part_later; part_of_all = laws.part_of_all } in
    files_as g.R.RowOut.after g.R.RowOut.part adds_up (plan_of c.args.common.now.cascade.now) (setting_of c.args.common.now.cascade.now).bundle (values_of c.feed_values.new.inlets) (HasFed c.args.common.now.cascade.now c.feed_values.new.pass)
    c.args.out.now c.feed_values.new.out _ _ _ _ c.in-Ok.stop c.in-Ok.ensures.feeds (HasFed c.args.common.now.cascade.now c.end_work.new.pass) c.in-Ok-end_work.ensures.feeder

pub returns-in-Err-end_work-clause-feeds : goal.returns-in-Err-end_work-clause-feeds
returns-in-Err-end_work-clause-feeds g c =
    let laws = g.met.R.RowOut g.world.𝓛 g.world.𝓜 g.world.𝓡 ((λ s x. x), (λ x. x), (λ x. x), λ x. x) in
    let adds_up : AddsUp g.R.RowOut.after g.R.RowOut.part = record { after_none = laws.after_none; after_more = laws.after_more; part_later = laws.part_later; part_of_all = laws.part_of_all } in
    files_without g.R.RowOut.after g.R.RowOut.part adds_up (plan_of c.args.common.now.cascade.now) (setting_of c.args.common.now.cascade.now).bundle (values_of c.feed_values.new.inlets) (HasFed c.args.common.now.cascade.now c.feed_values.new.pass)
    c.args.out.now c.feed_values.new.out _ _ _ _ c.in-Ok.stop c.in-Ok.ensures.feeds (λ f rows h. h.so_far)
