use Rattle.std.proofs.Common.{length, subst}
use Rattle.std.specs.Prelude.{MatchBool}
use Rattle.std.proofs.lemmas.Result.{IfOk-weaker}
use Rattle.sb_cascade.specs.Calls.{plan_of}
use Rattle.sb_cascade.specs.hand.declared.did.Did.TheVariants.{Bundle}
use Rattle.sb_worker.specs.Entries.{Gains}
use Rattle.sb_worker.specs.Steps.{IsDone, IsShelfBare}
use Rattle.sb_worker.proofs.Doing.{bare-first}
use Rattle.sb_worker.proofs.Gaining.{gains-then}
use Rattle.sb_worker.proofs.step.do_next.Goals as goal

pub returns-else-branch-clause-done : goal.returns-else-branch-clause-done
returns-else-branch-clause-done g c =
    let sink = length (plan_of c.args.cascade.now).steps in
    let p = c.args.pass.now in
    let q = c.work_shelved.new.pass in
    let r = c.close_or_work-in-Bundle.new.pass in
    let bare : Gains IsShelfBare p q =
    subst (λ b. MatchBool b (Gains (IsDone sink Bundle) p q) (Gains IsShelfBare p q)) c.if-branch.false c.in_ok-work_shelved-in-Bundle.ensures.done.1 in
    IfOk-weaker c.close_or_work-in-Bundle.result _ _
    (λ did done. (done.0, gains-then p q r IsShelfBare (IsDone sink did) (IsDone sink did) (λ a b. bare-first sink did a b) bare done.1))
    c.close_or_work-in-Bundle.ensures.done
