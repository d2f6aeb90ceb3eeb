-- The first transform of a plan that gathers records by session.
use Rattle.std.proofs.Common.{◌≤◌, ◌+◌, ℕ, arith}
use Rattle.std.proofs.lemmas.Option.{slice_get_within}
use Rattle.sb_alone.specs.base.pipeline.Plans.{IsPlan}
use Rattle.sb_alone.specs.base.pipeline.Shapes.{Shape}
use Rattle.sb_alone.specs.base.pipeline.declared.transform.TheConstants.{MAX_TRANSFORMS}
use Rattle.sb_checkpoint.specs.Reach.{IsFirstSession}

-- its number, from 1, is among those of the transforms
pub session-at_most : (plan : Shape) (place : ℕ) → IsPlan plan → IsFirstSession plan place → place + 1 ≤ MAX_TRANSFORMS
session-at_most plan place is first =
    let within = slice_get_within plan.steps place first.step first.there in
    let most = is.most in
    omega (arith, within, most)
