-- Shapes: the transforms of a pipeline in their order, where what each gives goes, and how its input is read.
use Rattle.std.specs.Prelude.{ℕ, Bool, ◌&&◌, ◌==◌, List, [], ◌∷◌, ◌++◌, map, count_by, Option, Some, None, is_some}
use Rattle.sb_windowed.specs.records.declared.intake.LatePolicy.{LatePolicy}
use Rattle.sb_windowed.specs.records.declared.intake.LatePolicy.TheVariants.{Refuse}
use Rattle.sb_windowed.specs.records.declared.item.Stream.{Stream}
use Rattle.sb_windowed.specs.records.declared.item.Stream.TheVariants.{A, B}
use Rattle.sb_windowed.specs.records.declared.item.Streams.{Streams}
use Rattle.sb_windowed.specs.records.declared.key.Keys.{Keys}
use Rattle.sb_windowed.specs.records.declared.key.Keys.TheVariants.{Numbers}
use Rattle.sb_windowed.specs.window.Spacing.{fixed_windows}
use Rattle.sb_windowed.specs.declared.aggregate.Agg.TheVariants.{Sum}
use Rattle.sb_pipeline.specs.declared.transform.Down.{Down}
use Rattle.sb_pipeline.specs.declared.transform.Kind.TheVariants.{Group}
use Rattle.sb_pipeline.specs.declared.transform.Step.{Step}

-- the transforms are the nodes from 0 on, and the node after them is the sink; the sources are where the streams go, if
-- anywhere; then what becomes of late records of the input, and what its keys are
pub record Shape : Type 0 where
  pub steps : List Step
  pub source_a : Option Down
  pub source_b : Option Down
  pub late : LatePolicy
  pub keys : Keys

-- the shape of these transforms and sources that refuses late records and whose keys are numbers
abbrev pub shape_of : List Step → Option Down → Option Down → Shape
shape_of steps source_a source_b =
    record {
      steps = steps;
      source_a = source_a;
      source_b = source_b;
      late = Refuse;
      keys = Numbers;
    }

-- where the stream goes, if the plan uses it
abbrev pub source : Shape → Stream → Option Down
source plan A = plan.source_a
source plan B = plan.source_b

-- the streams that go somewhere
abbrev pub streams_of : Shape → Streams
streams_of plan = record { a = is_some plan.source_a; b = is_some plan.source_b }

-- the place, where there is one
abbrev pub if_any : Option Down → List Down
if_any None = []
if_any (Some down) = down ∷ []

-- all the places that something is sent to, each as often as it is
abbrev pub downs : Shape → List Down
downs plan = map (λ s. s.down) plan.steps ++ (if_any plan.source_a ++ if_any plan.source_b)

-- whether the places are one lane of one node
abbrev pub is_same_place : Down → Down → Bool
is_same_place d e = (d.node == e.node) && (d.lane == e.lane)

-- how many transforms and streams send to the place
abbrev pub feeds : Shape → Down → ℕ
feeds plan place = count_by (is_same_place place) (downs plan)

-- one sum over fixed windows of stream a
abbrev pub sum_shape : ℕ → Shape
sum_shape size =
    shape_of (record { kind = Group Sum (fixed_windows size); down = record { node = 1; lane = 0 } } ∷ [])
    (Some (record { node = 0; lane = 0 })) None
