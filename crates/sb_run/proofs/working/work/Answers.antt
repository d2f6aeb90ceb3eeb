use Rattle.sb_engines.specs.worker.cascade.Calls.{plan_of, setting_of}
use Rattle.sb_engines.proofs.feeds.one_feed.GivesInTurn.{AddsUp}
use Rattle.sb_engines.proofs.feeds.one_feed.GiveLaws.{cause_of_none}
use Rattle.sb_engines.specs.feeds.InputEnds.{values_received, values_sent}
use Rattle.sb_engines.specs.EngineLaws.{still_here}
use Rattle.sb_engines.specs.Feeders.{HasFed}
use Rattle.sb_run.proofs.Tied.{feeds_none, input_cause, input_ended, input_fed, popped_sized}
use Rattle.sb_run.proofs.working.work.Goals as goal

-- there was no memory for the ring
pub returns-in_default-clause-feeds : goal.returns-in_default-clause-feeds
returns-in_default-clause-feeds g c =
    let laws = g.met.R.RowOut g.world.𝓛 g.world.𝓜 g.world.𝓡 ((λ s x. x), (λ x. x), (λ x. x), λ x. x) in
    let adds_up : AddsUp g.R.RowOut.after g.R.RowOut.part = record { after_none = laws.after_none; after_more = laws.after_more; part_later = laws.part_later; part_of_all = laws.part_of_all } in
    feeds_none g.R.RowOut.after g.R.RowOut.part adds_up (plan_of c.args.common.now.cascade.now) (g.S.Source.left c.args.input.now) c.args.out.now _ c.args.dropped.now.items

pub returns-in_default-clause-same : goal.returns-in_default-clause-same
returns-in_default-clause-same g c = still_here c.args.common.now.cascade.now c.args.passes.now.feeder c.requires.begins.fed.ready

pub returns-in_default-clause-cause : goal.returns-in_default-clause-cause
returns-in_default-clause-cause g c = cause_of_none (g.R.RowOut.row_state c.args.out.now) _ (λ e. cc e)

-- the feeder fed what the reader sent
pub returns-clause-feeds : goal.returns-clause-feeds
returns-clause-feeds g c =
    let plan = plan_of c.args.common.now.cascade.now in
    let apart = c.work_apart-clear.ensures in
    input_fed plan c.args.common.now.size (g.S.Source.left c.args.input.now) (g.S.Source.left c.work_apart-clear.new.input) (g.S.Source.faults c.args.input.now) (g.S.Source.faults c.work_apart-clear.new.input)
    (values_sent c.work_apart-clear.new.ends.outward) (values_received c.work_apart-clear.new.ends.inward) c.args.dropped.now.items c.work_apart-clear.new.dropped.items c.work_apart-clear.result.0.2 apart.read c.tie.ensures
    (HasFed c.args.common.now.cascade.now c.work_apart-clear.new.passes.feeder) g.R.RowOut.after g.R.RowOut.part c.args.out.now c.work_apart-clear.new.out _ _ c.work_apart-clear.result.1.1
    (popped_sized plan (setting_of c.args.common.now.cascade.now).bundle c.args.common.now.size (values_received c.work_apart-clear.new.ends.inward) (HasFed c.args.common.now.cascade.now c.work_apart-clear.new.passes.feeder) g.R.RowOut.after g.R.RowOut.part c.args.out.now c.work_apart-clear.new.out _ _ c.work_apart-clear.result.1.1 c.requires.begins.is_size apart.feeds)

pub returns-clause-source : goal.returns-clause-source
returns-clause-source g c =
    let plan = plan_of c.args.common.now.cascade.now in
    let apart = c.work_apart-clear.ensures in
    input_cause plan c.args.common.now.size (g.S.Source.left c.args.input.now) (g.S.Source.left c.work_apart-clear.new.input) (g.S.Source.faults c.args.input.now) (g.S.Source.faults c.work_apart-clear.new.input)
    (values_sent c.work_apart-clear.new.ends.outward) (values_received c.work_apart-clear.new.ends.inward) c.args.dropped.now.items c.work_apart-clear.new.dropped.items c.work_apart-clear.result.0.2 apart.read c.tie.ensures
    (HasFed c.args.common.now.cascade.now c.work_apart-clear.new.passes.feeder) g.R.RowOut.after g.R.RowOut.part c.args.out.now c.work_apart-clear.new.out _ _ c.work_apart-clear.result.1.1
    (popped_sized plan (setting_of c.args.common.now.cascade.now).bundle c.args.common.now.size (values_received c.work_apart-clear.new.ends.inward) (HasFed c.args.common.now.cascade.now c.work_apart-clear.new.passes.feeder) g.R.RowOut.after g.R.RowOut.part c.args.out.now c.work_apart-clear.new.out _ _ c.work_apart-clear.result.1.1 c.requires.begins.is_size apart.feeds)

pub returns-clause-end : goal.returns-clause-end
returns-clause-end g c =
    let plan = plan_of c.args.common.now.cascade.now in
    let apart = c.work_apart-clear.ensures in
    input_ended plan c.args.common.now.size (g.S.Source.left c.args.input.now) (g.S.Source.left c.work_apart-clear.new.input) (g.S.Source.faults c.args.input.now) (g.S.Source.faults c.work_apart-clear.new.input)
    (values_sent c.work_apart-clear.new.ends.outward) (values_received c.work_apart-clear.new.ends.inward) c.args.dropped.now.items c.work_apart-clear.new.dropped.items c.work_apart-clear.result.0.2 apart.read c.tie.ensures
    (HasFed c.args.common.now.cascade.now c.work_apart-clear.new.passes.feeder) g.R.RowOut.after g.R.RowOut.part c.args.out.now c.work_apart-clear.new.out _ _
    (g.S.Source.has_ended c.work_apart-clear.new.input) c.work_apart-clear.result.1.1
    (popped_sized plan (setting_of c.args.common.now.cascade.now).bundle c.args.common.now.size (values_received c.work_apart-clear.new.ends.inward) (HasFed c.args.common.now.cascade.now c.work_apart-clear.new.passes.feeder) g.R.RowOut.after g.R.RowOut.part c.args.out.now c.work_apart-clear.new.out _ _ c.work_apart-clear.result.1.1 c.requires.begins.is_size apart.feeds) apart.end
