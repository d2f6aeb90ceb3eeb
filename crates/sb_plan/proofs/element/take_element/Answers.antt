use Rattle.std.proofs.Common.{subst}
use Rattle.toml.specs.View.{view}
use Rattle.sb_plan.specs.Answers.{IsStopOf}
use Rattle.sb_plan.specs.PlanFiles.{with_element}
use Rattle.sb_plan.specs.Wants.{no_files}
use Rattle.sb_plan.proofs.Elements.{takes_refused}
use Rattle.sb_plan.proofs.element.take_element.Goals as goal

pub returns-in-Err-Cause-clause-exact : goal.returns-in-Err-Cause-clause-exact
returns-in-Err-Cause-clause-exact g c = λ files told rest.
    let value = view c.args.value.now in
    takes_refused files c.args.place c.args.wiring.now value rest c.in-Err-Cause.what
    (subst (IsStopOf (with_element files c.args.wiring.now value)) c.in-Err-Cause.field-0-is (c.in-Err-Cause.ensures.exact files told))

pub returns-in-Err-Cause-clause-alone : goal.returns-in-Err-Cause-clause-alone
returns-in-Err-Cause-clause-alone g c = λ wants rest.
    let value = view c.args.value.now in
    takes_refused no_files c.args.place c.args.wiring.now value rest c.in-Err-Cause.what
    (subst (IsStopOf (with_element no_files c.args.wiring.now value)) c.in-Err-Cause.field-0-is (c.in-Err-Cause.ensures.alone wants))
