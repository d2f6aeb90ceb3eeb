use Rattle.sb_engines.proofs.FedMore.{fed-raised}
use Rattle.sb_engines.proofs.shared.feeding.end_work.Goals as goal

pub returns-in-Ok-clause-feeder : goal.returns-in-Ok-clause-feeder
returns-in-Ok-clause-feeder g c f rows h =
    let cascade = c.args.common.now.cascade.now in
    let p = c.settle.new.pass in
    let q = c.stop.new.pass in
    let stopped = c.stop.ensures in
    fed-raised cascade p q 1 stopped.pass.0 stopped.pass.1.1 stopped.word f rows stopped.kept.0 (c.in-Ok.ensures.feeder f rows h)
