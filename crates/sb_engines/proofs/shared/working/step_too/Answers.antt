use Rattle.sb_engines.proofs.FedMore.{fed-stepped}
use Rattle.sb_engines.proofs.shared.working.step_too.Goals as goal

pub returns-in-Ok-clause-feeder : goal.returns-in-Ok-clause-feeder
returns-in-Ok-clause-feeder g c = λ f rows h.
    let stepped = c.one_step.ensures in
    fed-stepped c.args.common.now.cascade.now c.args.pass.now c.one_step.new.pass f rows h stepped.pass.0 (c.in-Ok.ensures.empty (λ e. cc e)) stepped.pass.1

pub returns-in-Ok-clause-empty : goal.returns-in-Ok-clause-empty
returns-in-Ok-clause-empty g c = c.in-Ok.ensures.empty (λ e. cc e)
