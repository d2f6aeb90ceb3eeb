use Rattle.std.proofs.Common.{◌≡◌, ◌∙◌, List, length, map, ap, sym, subst}
use Rattle.std.specs.List.{list_any}
use Rattle.sb_pipeline.specs.records.declared.intake.LatePolicy.TheVariants.{Refuse}
use Rattle.sb_pipeline.specs.records.declared.key.Keys.TheVariants.{Numbers}
use Rattle.sb_pipeline.specs.declared.transform.Step.{Step}
use Rattle.sb_pipeline.specs.Plans.{IsPlan, has_windows}
use Rattle.sb_pipeline.specs.Shapes as shapes
use Rattle.sb_pipeline.proofs.Steps.{still_plan}
use Rattle.sb_plan.specs.PlanFiles.{first_unused, shape_of, step_of}
use Rattle.sb_plan.proofs.Finishing.{is_plan}
use Rattle.sb_plan.proofs.ending.finish.Goals as goal

pub unwrap-plan-requires : goal.unwrap-plan-requires
unwrap-plan-requires c =
    let wiring = c.args.wiring in
    let parts = c.as_slice-parts.ensures in
    let used = ap first_unused (sym parts) ∙ sym c.first_unused.ensures ∙ c.in_default.is in
    let windows = ap (list_any (λ part. has_windows part.kind)) (sym parts) ∙ sym c.has_windows.ensures ∙ c.if-not-has_windows.false in
    let steps : c.in-Ok.steps.items ≡ map (step_of (record { node = length wiring.parts; lane = 0 })) wiring.parts =
    c.in-Ok.ensures ∙ (λ i. map (step_of (record { node = length (parts i); lane = 0 })) (c.into_vec.ensures i)) in
    c.new.ensures.valid.1
    (subst (λ (l : List Step). IsPlan (shapes.shape_of l wiring.source_a wiring.source_b)) (sym steps)
    (still_plan (shape_of wiring) Refuse Numbers (is_plan wiring c.requires.some c.requires.most c.requires.sound used windows)))
