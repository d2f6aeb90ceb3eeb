use Rattle.sb_engines.specs.worker.cascade.Calls.{plan_of}
use Rattle.sb_engines.specs.Feeders.{HasFed}
use Rattle.sb_run.proofs.InputPrinted.{ring_unfed, rows_fed}
use Rattle.sb_run.proofs.printing.work_for_printer.Goals as goal

-- the printer has given up the feeder
pub returns-then-not-begin-clause-feeds : goal.returns-then-not-begin-clause-feeds
returns-then-not-begin-clause-feeds g c =
    ring_unfed (plan_of c.args.common.now.cascade.now) c.args.common.now.size (g.S.Source.left c.args.input.now) (HasFed c.args.common.now.cascade.now c.args.passes.now.feeder) c.args.sender.now.out c.args.dropped.now.items

pub returns-clause-feeds : goal.returns-clause-feeds
returns-clause-feeds g c = record {
  between = c.work-clear.new.out.out;
  feeds = rows_fed _ _ c.args.sender.now c.work-clear.new.out c.args.sender.now.out c.work-clear.new.out.out (plan_of c.args.common.now.cascade.now) c.args.common.now.size (g.S.Source.left c.args.input.now) (g.S.Source.left c.work-clear.new.input)
      (HasFed c.args.common.now.cascade.now c.work-clear.new.passes.feeder) _ _ c.args.dropped.now.items c.work-clear.new.dropped.items c.work-clear.result.1 c.work-clear.ensures.feeds (λ rows h. h) (λ rows h. h);
  ended = c.end.ensures;
}
