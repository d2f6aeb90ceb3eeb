use Rattle.std.proofs.Common.{◌≡◌, ◌+◌, inr, refl, subst, arith}
use Rattle.sb_told.specs.plan.declared.fault.PlanCause.TheVariants.{HasSession}
use Rattle.sb_told.specs.plan.declared.fault.PlanFault.{PlanFault}
use Rattle.sb_answers.specs.Pipelines.{IsFaultOfCut}
use Rattle.sb_answers.proofs.Sessions.{session-at_most}
use Rattle.sb_answers.proofs.loading.plan_to_cut.Goals as goal

pub overflow_add-result : goal.overflow_add-result
overflow_add-result g c =
    let few = session-at_most c.in_ok-plan.plan c.in-Some.place c.in_ok-plan.ensures.plan (c.first_session.ensures.some c.in-Some.place c.in-Some.is) in
    omega (arith, few)

pub returns-in-Some-clause-fault : goal.returns-in-Some-clause-fault
returns-in-Some-clause-fault g c = λ fault is.
    let found : PlanFault = record { at = c.in-Some.place + 1; what = HasSession } in
    let same : found ≡ fault = cc is in
    subst (λ f. IsFaultOfCut (g.F.Folder.files c.args.folder.now) c.args.name.now f) same
    (inr (
      c.in_ok-plan.plan,
      λ files told. c.in_ok-plan.ensures.exact files told,
      record { place = c.in-Some.place; first = c.first_session.ensures.some c.in-Some.place c.in-Some.is; at = refl; what = refl },
    ))
