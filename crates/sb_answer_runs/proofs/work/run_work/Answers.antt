use Rattle.std.proofs.Common.{Some, ap}
use Rattle.sb_answer_runs.proofs.WorkRuns.{ends_work, none_mapped}
use Rattle.sb_answer_runs.proofs.work.run_work.Goals as goal

pub returns : goal.returns
returns g c =
    ends_work c.args.records c.requires.amount _ _ _ _ _ _ _ _ _ _ c.run.result c.requires.plan (ap (λ l. Some l) c.new-source.ensures) (none_mapped _ _ c.new-taps.ensures.items)
    c.run.ensures.ends c.run.ensures.input c.run.ensures.output
