use Rattle.sb_engines.proofs.FedMore.{drained-in_time, fed-drained}
use Rattle.sb_engines.proofs.shared.working.take_out.Goals as goal

pub returns-clause-feeder : goal.returns-clause-feeder
returns-clause-feeder g c = λ f rows h.
    let drained = c.drain.ensures in
    fed-drained c.args.common.now.cascade.now c.args.pass.now c.drain.new.pass f rows h c.drain.result.items drained.rows drained.all drained.pass.0 drained.pass.1 drained.pass.2

pub returns-clause-times : goal.returns-clause-times
returns-clause-times g c =
    let (f, rows, h) = c.requires.feeder in
    let drained = c.drain.ensures in
    drained-in_time c.args.common.now.cascade.now c.args.pass.now c.drain.new.pass f rows h c.drain.result.items drained.rows drained.all
