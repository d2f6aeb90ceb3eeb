use Rattle.sb_engines.specs.EngineLaws.{still_then}
use Rattle.sb_engines.proofs.shared.working.settle.Goals as goal

pub returns-in-Ok-Nothing-clause-feeder : goal.returns-in-Ok-Nothing-clause-feeder
returns-in-Ok-Nothing-clause-feeder g c = λ f rows h. c.in-Ok-Nothing.ensures.feeder f rows (c.loop.invariant.feeder f rows h)

pub loop-preserved : goal.loop-preserved
loop-preserved g c =
    let inv = c.loop.invariant in
    let stepped = c.in-Ok-Bundle.ensures in
    record {
      same = still_then c.args.common.now.cascade.now c.args.pass.now c.loop.pass c.step_too.new.pass inv.same stepped.same;
      empty = stepped.empty;
      feeder = λ f rows h. stepped.feeder f rows (inv.feeder f rows h);
    }
