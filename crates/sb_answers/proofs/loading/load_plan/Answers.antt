use Rattle.std.proofs.Common.{◌+◌, ◌++◌, take, ap, subst, ◌∙◌}
use Rattle.sb_told.specs.plan.declared.TheConstants.{MAX_PLAN_BYTES}
use Rattle.sb_told.specs.plan.Wants.{BlamesLoad, IsWantedBy}
use Rattle.sb_answers.specs.Faults.{IsWantedFor, plan_load}
use Rattle.sb_answers.proofs.Wanting.{blames_as, plan_file_wanted, wanted_in_file}
use Rattle.sb_answers.proofs.loading.load_plan.Goals as goal

pub returns-in-Ok-clause-cause : goal.returns-in-Ok-clause-cause
returns-in-Ok-clause-cause g c =
    let folder = g.F.Folder.files c.args.folder.now in
    let name = c.args.name.now in
    let text = c.deref.result.now in
    let loaded = c.in-Ok.ensures.bytes in
    let is = c.deref.ensures.value ∙ loaded.2 ∙ ap (λ l. l ++ take (MAX_PLAN_BYTES + 1) loaded.0) c.new-text.ensures.items in
    subst (λ before. BlamesLoad (IsWantedFor folder name) before (g.F.Folder.failed c.plan_of.new.folder) c.plan_of.result) c.in-Ok.ensures.failure
    (blames_as (IsWantedBy (g.F.Folder.files c.load.new.self) text) (IsWantedFor folder name) _ _ c.plan_of.result
    (λ load wanted. wanted_in_file folder name loaded.0 text loaded.1 is load (subst (λ f. IsWantedBy f text load) c.in-Ok.ensures.same wanted)) c.plan_of.ensures.cause)

pub returns-in-Err-Failed-clause-cause : goal.returns-in-Err-Failed-clause-cause
returns-in-Err-Failed-clause-cause g c = (plan_load c.args.name.now, plan_file_wanted (g.F.Folder.files c.args.folder.now) c.args.name.now, rw c.in-Err-Failed.field-0-is at c.in-Err-Failed.ensures.failure)
