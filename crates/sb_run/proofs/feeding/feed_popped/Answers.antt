use Rattle.sb_engines.specs.worker.cascade.Calls.{plan_of, setting_of}
use Rattle.sb_engines.proofs.feeds.one_feed.GivesInTurn.{AddsUp}
use Rattle.sb_engines.proofs.feeds.one_feed.GiveLaws.{cause_of_none}
use Rattle.sb_engines.specs.feeds.InputEnds.{values_received}
use Rattle.sb_engines.specs.EngineLaws.{still_here}
use Rattle.sb_run.proofs.PoppedSoFar.{popped_none}
use Rattle.sb_run.proofs.feeding.feed_popped.Goals as goal

pub returns-then-not-has_begun-clause-same : goal.returns-then-not-has_begun-clause-same
returns-then-not-has_begun-clause-same g c = still_here c.args.common.now.cascade.now c.args.pass.now c.requires.begins.ready

pub returns-then-not-has_begun-clause-feeds : goal.returns-then-not-has_begun-clause-feeds
returns-then-not-has_begun-clause-feeds g c =
    let laws = g.met.R.RowOut g.world.𝓛 g.world.𝓜 g.world.𝓡 ((λ s x. x), (λ x. x), (λ x. x), λ x. x) in
    let adds_up : AddsUp g.R.RowOut.after g.R.RowOut.part = record { after_none = laws.after_none; after_more = laws.after_more; part_later = laws.part_later; part_of_all = laws.part_of_all } in
    popped_none g.R.RowOut.after g.R.RowOut.part adds_up (plan_of c.args.common.now.cascade.now) (setting_of c.args.common.now.cascade.now).bundle
    c.args.out.now _ (values_received c.args.inward.now) c.requires.nothing c.requires.begins.so_far

pub returns-then-not-has_begun-clause-cause : goal.returns-then-not-has_begun-clause-cause
returns-then-not-has_begun-clause-cause g c = cause_of_none (g.R.RowOut.row_state c.args.out.now) _ (λ e. cc e)
