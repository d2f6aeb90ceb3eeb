use Rattle.std.proofs.Common.{length}
use Rattle.sb_cascade.specs.Calls.{plan_of}
use Rattle.sb_cascade.specs.hand.declared.did.Did.TheVariants.{Bundle}
use Rattle.sb_worker.specs.Entries.{Does}
use Rattle.sb_worker.specs.Steps.{IsClaiming, IsDone}
use Rattle.sb_worker.proofs.Doing.{bundle-done}
use Rattle.sb_worker.proofs.Gaining.{gains-then}
use Rattle.sb_worker.proofs.step.work_shelved.Goals as goal

pub returns-clause-done : goal.returns-clause-done
returns-clause-done g c =
    let sink = length (plan_of c.args.cascade.now).steps in
    let done = c.in_ok-work_off.ensures.done in
    (done.0, gains-then c.args.pass.now c.shelved_claim.new.pass c.work_off.new.pass IsClaiming (Does 1 0) (IsDone sink Bundle) (bundle-done sink) c.in-Some.ensures.some.2 done.1)
