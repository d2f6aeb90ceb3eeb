use Rattle.std.proofs.Common.{length, subst}
use Rattle.std.specs.Prelude.{MatchBool}
use Rattle.sb_cascade.specs.Calls.{plan_of}
use Rattle.sb_cascade.specs.hand.declared.did.Did.TheVariants.{Bundle, Nothing}
use Rattle.sb_worker.specs.Entries.{Does, Gains}
use Rattle.sb_worker.specs.Steps.{IsBareAndIdle, IsClaiming, IsDone, IsNotYet}
use Rattle.sb_worker.proofs.Claims.{claiming-after}
use Rattle.sb_worker.proofs.Doing.{bundle-done, nothing-done}
use Rattle.sb_worker.proofs.Gaining.{gains-then}
use Rattle.sb_worker.proofs.step.close_or_work.Goals as goal

pub returns-in_default-clause-done : goal.returns-in_default-clause-done
returns-in_default-clause-done g c =
    let sink = length (plan_of c.args.cascade.now).steps in
    let p = c.args.pass.now in
    let q = c.close_any.new.pass in
    let not : Gains (IsNotYet sink) p q = subst (λ b. MatchBool b (Gains (Does 0 1) p q) (Gains (IsNotYet sink) p q)) c.if-branch.false c.in_ok-close_any.ensures.trace in
    let none = c.in_default.ensures.none in
    (none.0, gains-then p q c.next_claim.new.pass (IsNotYet sink) (IsBareAndIdle sink) (IsDone sink Nothing) (nothing-done sink) not none.1)

pub returns-clause-done : goal.returns-clause-done
returns-clause-done g c =
    let sink = length (plan_of c.args.cascade.now).steps in
    let p = c.args.pass.now in
    let q = c.close_any.new.pass in
    let r = c.next_claim.new.pass in
    let not : Gains (IsNotYet sink) p q = subst (λ b. MatchBool b (Gains (Does 0 1) p q) (Gains (IsNotYet sink) p q)) c.if-branch.false c.in_ok-close_any.ensures.trace in
    let claimed = gains-then p q r (IsNotYet sink) IsClaiming IsClaiming (λ a b x y. claiming-after a b x.0 y) not c.in-Some.ensures.some.2 in
    let done = c.in_ok-work_off.ensures.done in
    (done.0, gains-then p r c.work_off.new.pass IsClaiming (Does 1 0) (IsDone sink Bundle) (bundle-done sink) claimed done.1)
