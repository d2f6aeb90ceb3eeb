-- The transforms of a plan, one by one.
use Rattle.std.proofs.Common.{◌≡◌, ℕ, List, All, Some, subst}
use Rattle.std.specs.List.{slice_get}
use Rattle.std.proofs.lemmas.Option.{slice_get_within, get_or_from_slice_get}
use Rattle.sb_windowed.specs.records.declared.intake.LatePolicy.{LatePolicy}
use Rattle.sb_windowed.specs.records.declared.key.Keys.{Keys}
use Rattle.sb_pipeline.specs.declared.transform.Step.{Step}
use Rattle.sb_pipeline.specs.Plans.{IsPlace, IsPlan, IsValidKind}
use Rattle.sb_pipeline.specs.Shapes.{Shape}

-- what holds of each element holds of the one at this place
pub All-at : {X : Type 0} (P : X → Type 0) (xs : List X) (k : ℕ) (x : X) → All P xs → slice_get xs k ≡ Some x → P x
All-at P xs k x all at = subst P (get_or_from_slice_get xs k x x at) (all k x (slice_get_within xs k x at))

pub kind-at : (plan : Shape) → IsPlan plan → (k : ℕ) (s : Step) → slice_get plan.steps k ≡ Some s → IsValidKind s.kind
kind-at plan is k s at = All-at (λ s. IsValidKind s.kind) plan.steps k s is.kinds at

pub place-at : (plan : Shape) → IsPlan plan → (k : ℕ) (s : Step) → slice_get plan.steps k ≡ Some s → IsPlace plan.steps s.down
place-at plan is k s at = All-at (λ s. IsPlace plan.steps s.down) plan.steps k s is.places at

-- a plan with another policy on late records, or with other keys
pub still_plan : (plan : Shape) (late : LatePolicy) (keys : Keys) → IsPlan plan → IsPlan (record plan { late = late; keys = keys })
still_plan plan late keys is =
    record {
      some = is.some;
      most = is.most;
      kinds = is.kinds;
      joins = is.joins;
      windows = is.windows;
      further = is.further;
      places = is.places;
      source_a = is.source_a;
      source_b = is.source_b;
      fed_once = is.fed_once;
    }
