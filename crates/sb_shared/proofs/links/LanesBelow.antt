-- The lane below a transform, as the plan gives it.
use Rattle.std.proofs.Common.{◌≡◌, ℕ, Some, ap, ◌∙◌}
use Rattle.std.specs.List.{slice_get}
use Rattle.std.specs.Option.{option_map}
use Rattle.sb_shown.specs.base.pipeline.declared.transform.Down.{Down}
use Rattle.sb_shown.specs.base.pipeline.declared.transform.Step.{Step}
use Rattle.sb_shown.specs.base.pipeline.Shapes.{Shape}
use Rattle.sb_shown.specs.core.Events.{below}
use Rattle.sb_shown.proofs.Steps.{below-is}
use Rattle.sb_shown.proofs.Steps.{step-of}

-- what the plan tells of the lane below a node is what the core has there
pub below_is : (plan : Shape) (k : ℕ) (d : Down) → option_map (λ (s : Step). s.down) (slice_get plan.steps k) ≡ Some d → below plan k ≡ Some d
below_is plan k d down = let st = step-of plan.steps k d down in below-is plan k st.0 st.1 ∙ ap Some st.2
