-- What a node keeps between two closings, by its kind.
use Rattle.std.specs.Prelude.{◌≡◌, ◌<◌, ℕ, true, All, List, [], ◌++◌}
use Rattle.sb_work.specs.base.records.declared.element.KeptRec.{KeptRec}
use Rattle.sb_work.specs.base.records.declared.item.Record.{Record}
use Rattle.sb_work.specs.base.records.declared.item.TheConstants.{END_MARK}
use Rattle.sb_work.specs.base.records.Elements.{all_records, on_lane}
use Rattle.sb_work.specs.base.records.Records.{at_least}
use Rattle.sb_work.specs.base.records.Reorderings.{IsReordered}
use Rattle.sb_work.specs.base.window.Groupings.{IsFrom}
use Rattle.sb_work.specs.aggregate.Groups as aggregate
use Rattle.sb_sink.specs.Sinks as sink
use Rattle.sb_work.specs.join.Kept as join
use Rattle.sb_session.specs.SessionStates as session
use Rattle.sb_work.specs.base.pipeline.Operators.{Operator, operator_rows, lanes_of}
use Rattle.sb_work.specs.base.pipeline.Operators.Operator.{ParDo, Windowed, Sink}
use Rattle.sb_work.specs.base.pipeline.Operators.WindowOperator.{Aggregated, Sessions, Joined}
use Rattle.sb_work.specs.declared.outputs.Part.{Part}
use Rattle.sb_work.specs.Processing.{IsPart}
use Rattle.sb_node.specs.declared.kept.Kept.{Kept}
use Rattle.sb_node.specs.declared.kept.Kept.TheVariants as kept

-- no memory was found, so the content is unknown
abbrev pub IsSpent : Kept → Type 0
IsSpent (kept.Nothing alloc closed) = ⊥
IsSpent (kept.Aggregate g) = g.spent ≡ true
IsSpent (kept.Session g) = session.IsSpent g
IsSpent (kept.Join g) = join.IsSpent g
IsSpent (kept.Sink g) = sink.IsSpent g

-- the mark of the last closing, 0 before the first
abbrev pub closed_mark : Kept → ℕ
closed_mark (kept.Nothing alloc closed) = closed
closed_mark (kept.Aggregate g) = g.closed
closed_mark (kept.Session g) = g.closed
closed_mark (kept.Join g) = g.closed
closed_mark (kept.Sink g) = g.closed

-- the rows, from the closed mark on, if these elements were taken in and everything was closed
abbrev pub gives : Kept → List KeptRec → List Record
gives (kept.Nothing alloc closed) l = []
gives (kept.Aggregate g) l = aggregate.given g l
gives (kept.Session g) l = session.gives g l
gives (kept.Join g) l = join.gives g l
gives (kept.Sink g) l = sink.gives g l

-- it was made for a node of this kind: it takes the parts that are made for one
abbrev pub IsMadeFor : Operator → Kept → Type 0
IsMadeFor (ParDo op) (kept.Nothing alloc closed) = Unit {0}
IsMadeFor (Windowed (Aggregated agg windows)) (kept.Aggregate g) = (g.agg ≡ agg) × (g.windows ≡ windows)
IsMadeFor (Windowed (Sessions agg gap)) (kept.Session g) = (g.agg ≡ agg) × (g.gap ≡ gap)
IsMadeFor (Windowed (Joined combine windows)) (kept.Join g) = g.windows ≡ windows
IsMadeFor Sink (kept.Sink g) = Unit {0}
IsMadeFor operator g = ⊥

-- the part is of records on a lane of the node for which this was made, none of them below the closed mark
pub record IsPartFor (g : Kept) (part : Part) (lane : ℕ) (records : List Record) : Type 0 where
  pub operator : Operator
  pub made : IsMadeFor operator g
  pub is_lane : lane < lanes_of operator
  pub is_part : IsPart operator lane records part
  pub in_time : All (λ r. r.time < END_MARK) records
  pub from : IsFrom (closed_mark g) (on_lane lane records)

-- what a node gives of all of its elements, from its closed mark on; the sink gives them as they are
abbrev pub output_from : Operator → ℕ → List KeptRec → List Record
output_from (ParDo op) closed es = []
output_from (Windowed grouping) closed es = at_least closed (operator_rows grouping es)
output_from Sink closed es = all_records es

-- it stands for these elements: it gives what the node gives of them and of what comes
abbrev pub ShowsKept : Operator → Kept → List KeptRec → Type 0
ShowsKept operator g elements =
    (l : List KeptRec) → IsFrom (closed_mark g) l
    → IsReordered (gives g l) (output_from operator (closed_mark g) (elements ++ l))
