use Rattle.sb_worker.proofs.cascade.leavings.Handing.{same-then}
use Rattle.sb_engines.proofs.FedMore.{fed-stepped}
use Rattle.sb_engines.proofs.shared.working.work_there.Goals as goal

pub returns-in-Ok-clause-feeder : goal.returns-in-Ok-clause-feeder
returns-in-Ok-clause-feeder g c = λ f rows h.
    let there = c.try_there.ensures in
    let worked = c.work_off.ensures in
    let p = c.args.pass.now in
    let q = c.try_there.new.pass in
    let r = c.work_off.new.pass in
    fed-stepped c.args.common.now.cascade.now p r f rows h worked.pass.0 c.in-Ok.ensures.done.0 (same-then p q r there.pass.1 worked.pass.1)

pub returns-in-None-clause-feeder : goal.returns-in-None-clause-feeder
returns-in-None-clause-feeder g c = λ f rows h.
    let there = c.try_there.ensures in
    fed-stepped c.args.common.now.cascade.now c.args.pass.now c.try_there.new.pass f rows h there.pass.0 c.in-None.ensures.none there.pass.1
