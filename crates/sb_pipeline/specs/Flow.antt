-- How records flow through a plan, where each node takes whole lists.
use Rattle.std.specs.Prelude.{ℕ, ◌+◌, ◌==◌, if◌then◌else◌, List, [], ◌∷◌, ◌++◌, flat_map, length, Option, Some, None}
use Rattle.sb_windowed.specs.records.declared.item.Record.{Record}
use Rattle.sb_windowed.specs.records.declared.item.Stream.{Stream}
use Rattle.sb_windowed.specs.records.declared.item.Stream.TheVariants.{A, B}
use Rattle.sb_pipeline.specs.declared.transform.Down.{Down}
use Rattle.sb_windowed.specs.records.declared.element.KeptRec.{KeptRec}
use Rattle.sb_pipeline.specs.declared.transform.Step.{Step}
use Rattle.sb_windowed.specs.records.Elements.{on_lane}
use Rattle.sb_pipeline.specs.Shapes.{Shape}

-- a list on its way to a lane of a node
pub record Sent : Type 0 where
  pub down : Down
  pub records : List Record

-- what arrives at node k, of all that was sent
abbrev pub arrivals_at : ℕ → List Sent → List KeptRec
arrivals_at k sent = flat_map (λ s. if s.down.node == k then on_lane s.down.lane s.records else []) sent

-- what a stream sends
abbrev pub from_stream : Option Down → List Record → List Sent
from_stream None records = []
from_stream (Some down) records = record { down = down; records = records } ∷ []

-- what both streams send
abbrev pub from_streams : Shape → (Stream → List Record) → List Sent
from_streams plan streams = from_stream plan.source_a (streams A) ++ from_stream plan.source_b (streams B)

-- what the transform sends, which gives this
abbrev pub from_step : Step → List Record → Sent
from_step step records = record { down = step.down; records = records }

-- all that is sent once the transforms from k on have given what they give, where gives k is what node k gives for what
-- arrives at it
abbrev pub sent_from : (ℕ → List KeptRec → List Record) → ℕ → List Step → List Sent → List Sent
sent_from gives k [] sent = sent
sent_from gives k (step ∷ steps) sent =
    sent_from gives (k + 1) steps (sent ++ from_step step (gives k (arrivals_at k sent)) ∷ [])

-- what the sink gives for what arrives at it
abbrev pub flow : Shape → (ℕ → List KeptRec → List Record) → (Stream → List Record) → List Record
flow plan gives streams =
    gives (length plan.steps)
    (arrivals_at (length plan.steps) (sent_from gives 0 plan.steps (from_streams plan streams)))
