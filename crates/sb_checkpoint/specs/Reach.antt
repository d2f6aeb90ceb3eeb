-- How far back a plan reaches, and which records can still be part of a row.
use Rattle.std.specs.Prelude.{◌≡◌, ℕ, ◌+◌, Bool, true, false, nat_lt, not, List, All, Some, filter, slice_get, sum_by, take}
use Rattle.sb_pipeline.specs.records.declared.item.Record.{Record}
use Rattle.sb_pipeline.specs.declared.transform.Kind.{Kind}
use Rattle.sb_pipeline.specs.declared.transform.Step.{Step}
use Rattle.sb_pipeline.specs.declared.transform.Kind.TheVariants.{Do, Group, Session, Join}
use Rattle.sb_pipeline.specs.Shapes.{Shape}

-- whether the transform gathers records by session
abbrev pub is_session : Kind → Bool
is_session (Do op) = false
is_session (Group agg windows) = false
is_session (Session agg gap) = true
is_session (Join combine windows) = false

-- no transform gathers records by session: a session can go on without end, so nothing bounds how far back it reaches
abbrev pub HasNoSession : Shape → Type 0
HasNoSession plan = All (λ s. is_session s.kind ≡ false) plan.steps

-- the transform at this place gathers records by session, and none before it does
pub record IsFirstSession (plan : Shape) (place : ℕ) : Type 0 where
  pub before : All (λ s. is_session s.kind ≡ false) (take place plan.steps)
  pub step : Step
  pub there : slice_get plan.steps place ≡ Some step
  pub is : is_session step.kind ≡ true

-- how long the transform's windows are, 0 where it has none
abbrev pub size_in : Kind → ℕ
size_in (Do op) = 0
size_in (Group agg windows) = windows.size
size_in (Session agg gap) = 0
size_in (Join combine windows) = windows.size

-- the sizes of all windows of the plan
abbrev pub reach : Shape → ℕ
reach plan = sum_by (λ s. size_in s.kind) plan.steps

-- whether the time is at most n before w
abbrev pub is_within : ℕ → ℕ → ℕ → Bool
is_within n w time = not (nat_lt (time + n) w)

-- the records with times at most n before w
abbrev pub within : ℕ → ℕ → List Record → List Record
within n w records = filter (λ r. is_within n w r.time) records
