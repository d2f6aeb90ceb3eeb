-- Which shapes are plans.
use Rattle.std.specs.Prelude.{◌≡◌, ◌≤◌, ◌<◌, ℕ, Bool, true, false, List, All, length, count_by, Some, IfSome, slice_get}
use Rattle.sb_windowed.specs.window.Spacing.{AreWindows}
use Rattle.sb_pardo.specs.Validity as pardo
use Rattle.sb_windowed.specs.Aggregates as aggregate
use Rattle.sb_windowed.specs.Aggregates.{GivesOne}
use Rattle.sb_windowed.specs.declared.session.TheConstants.{MAX_GAP}
use Rattle.sb_pipeline.specs.declared.transform.Down.{Down}
use Rattle.sb_pipeline.specs.declared.transform.Kind.{Kind}
use Rattle.sb_pipeline.specs.declared.transform.Kind.TheVariants.{Do, Group, Session, Join}
use Rattle.sb_pipeline.specs.declared.transform.Step.{Step}
use Rattle.sb_pipeline.specs.declared.transform.TheConstants.{MAX_TRANSFORMS}
use Rattle.sb_pipeline.specs.Operators.{lanes_of, operator_at}
use Rattle.sb_pipeline.specs.Shapes.{Shape, feeds}

-- what the transform does can be asked for; a join has fixed windows
abbrev pub IsValidKind : Kind → Type 0
IsValidKind (Do op) = pardo.IsValid op
IsValidKind (Group agg windows) = aggregate.IsValid agg × AreWindows windows
IsValidKind (Session agg gap) = GivesOne agg × ((1 ≤ gap) × (gap ≤ MAX_GAP))
IsValidKind (Join combine windows) = AreWindows windows × (windows.size ≡ windows.every)

-- whether the transform is a join
abbrev pub is_join : Kind → Bool
is_join (Do op) = false
is_join (Group agg windows) = false
is_join (Session agg gap) = false
is_join (Join combine windows) = true

-- whether it gathers records by window or session
abbrev pub has_windows : Kind → Bool
has_windows (Do op) = false
has_windows (Group agg windows) = true
has_windows (Session agg gap) = true
has_windows (Join combine windows) = true

-- the place is a lane of one of the nodes
abbrev pub IsPlace : List Step → Down → Type 0
IsPlace steps place = (place.node ≤ length steps) × (place.lane < lanes_of (operator_at (slice_get steps place.node)))

-- the output of each transform goes to a lane of a later node, and each lane of each node is fed once; what becomes of
-- late records, and what keys are, does not matter
pub record IsPlan (plan : Shape) : Type 0 where
  pub some : 1 ≤ length plan.steps
  pub most : length plan.steps ≤ MAX_TRANSFORMS
  pub kinds : All (λ s. IsValidKind s.kind) plan.steps
  pub joins : count_by (λ s. is_join s.kind) plan.steps ≤ 1
  pub windows : 1 ≤ count_by (λ s. has_windows s.kind) plan.steps
  pub further : (k : ℕ) (s : Step) → slice_get plan.steps k ≡ Some s → k < s.down.node
  pub places : All (λ s. IsPlace plan.steps s.down) plan.steps
  pub source_a : IfSome plan.source_a (IsPlace plan.steps)
  pub source_b : IfSome plan.source_b (IsPlace plan.steps)
  pub fed_once : (place : Down) → IsPlace plan.steps place → feeds plan place ≡ 1
