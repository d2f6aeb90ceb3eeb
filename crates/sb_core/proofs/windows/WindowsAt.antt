-- The window operators of a plan meet their laws.
use Rattle.std.proofs.Common.{◌≡◌, ℕ, Option, Some, None, refl, subst}
use Rattle.std.specs.List.{slice_get}
use Rattle.sb_containers.specs.base.pipeline.declared.transform.Kind.{Kind}
use Rattle.sb_containers.specs.base.pipeline.declared.transform.Kind.TheVariants.{Do, Group, Session, Join}
use Rattle.sb_containers.specs.base.pipeline.declared.transform.Step.{Step}
use Rattle.sb_containers.specs.base.pipeline.Shapes.{Shape}
use Rattle.sb_containers.specs.base.pipeline.Plans.{IsPlan, IsValidKind}
use Rattle.sb_containers.specs.base.pipeline.Operators.{WindowOperator, operator_of, operator_at}
use Rattle.sb_containers.specs.base.pipeline.Operators.Operator.{Windowed}
use Rattle.sb_containers.specs.base.pipeline.Operators.WindowOperator.{Aggregated, Sessions, Joined}
use Rattle.sb_containers.specs.base.StepLemmas.{kind-at}
use Rattle.sb_core.proofs.windows.WindowOperators.{IsGrouping}
use Rattle.sb_core.proofs.windows.Groupings.{aggregated, sessions, joined}

pub of_kind : (kind : Kind) → IsValidKind kind → (g : WindowOperator) → operator_of kind ≡ Windowed g → IsGrouping g
of_kind (Do op) valid g e = cc
of_kind (Group agg windows) valid g e = let same : Aggregated agg windows ≡ g = cc in subst IsGrouping same (aggregated agg windows valid.1)
of_kind (Session agg gap) valid g e = let same : Sessions agg gap ≡ g = cc in subst IsGrouping same (sessions agg gap valid.1.0 valid.1.1)
of_kind (Join combine windows) valid g e = let same : Joined combine windows ≡ g = cc in subst IsGrouping same (joined combine windows valid.0)

pub windows-at : (plan : Shape) → IsPlan plan → (k : ℕ) (g : WindowOperator) → operator_at (slice_get plan.steps k) ≡ Windowed g → IsGrouping g
windows-at plan is k g e = by_step (slice_get plan.steps k) refl e
  where
    by_step : (o : Option Step) → slice_get plan.steps k ≡ o → operator_at o ≡ Windowed g → IsGrouping g
    by_step None at e = cc
    by_step (Some s) at e = of_kind s.kind (kind-at plan is k s at) g e
