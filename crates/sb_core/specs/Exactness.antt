-- What the whole run will give, and exact moments: no record is lost, and none counts twice.
use Rattle.std.specs.Prelude.{◌≡◌, ℕ, ◌+◌, ◌≤◌, ◌==◌, not, ◌&&◌, if◌then◌else◌, List, [], ◌∷◌, ◌++◌, All, Some, slice_get}
use Rattle.std.specs.List.{flat_map}
use Rattle.sb_containers.specs.base.records.declared.item.Record.{Record}
use Rattle.sb_containers.specs.base.records.declared.element.KeptRec.{KeptRec}
use Rattle.sb_containers.specs.base.records.declared.item.Stream.{Stream}
use Rattle.sb_containers.specs.base.pipeline.declared.transform.Down.{Down}
use Rattle.sb_containers.specs.base.pipeline.Shapes.{Shape, source}
use Rattle.sb_containers.specs.declared.container.CoreLane.{CoreLane}
use Rattle.sb_core.specs.declared.moment.Node.{Node}
use Rattle.sb_core.specs.declared.held.Held.{Held}
use Rattle.sb_core.specs.declared.held.Held.TheVariants.{Work, Close}
use Rattle.sb_core.specs.declared.moment.Moment.{Moment}
use Rattle.sb_containers.specs.base.records.Records.{at_least}
use Rattle.sb_containers.specs.base.records.Reorderings.{IsReordered}
use Rattle.sb_containers.specs.base.pipeline.Operators.{Operator, operator_rows, operator_at}
use Rattle.sb_containers.specs.base.pardo.Outputs.{outputs_of}
use Rattle.sb_containers.specs.base.records.Elements.{on_lane, all_records}
use Rattle.sb_containers.specs.base.pipeline.Flow.{flow}
use Rattle.sb_containers.specs.base.pipeline.Results.{output_of}
use Rattle.sb_containers.specs.base.pipeline.Operators.Operator.{ParDo, Windowed, Sink}
use Rattle.sb_containers.specs.Marks.{least_begun_mark}
use Rattle.sb_core.specs.Moments.{node_at, floor_at}
use Rattle.sb_containers.specs.base.records.declared.item.TheConstants.{MAX_TIME}

-- the records that wait in a lane
abbrev pub waiting_in : CoreLane → List Record
waiting_in lane = flat_map (λ c. flat_map (λ b. b.records) c.waiting) lane.conts

-- the records that wait in the lanes from l on, with their lanes
abbrev pub waiting_from : ℕ → List CoreLane → List KeptRec
waiting_from l [] = []
waiting_from l (lane ∷ lanes) = on_lane l (waiting_in lane) ++ waiting_from (l + 1) lanes

-- the records of the node's Works that are not delivered
abbrev pub work_in : ℕ → Held → List KeptRec
work_in k (Work node lane epoch floor number records delivered) =
    if (node == k) && not delivered then on_lane lane records else []
work_in k (Close node lane epoch serial floor mark rows passed) = []

-- the rows that the node's Close has left
abbrev pub rows_left_in : ℕ → Held → List Record
rows_left_in k (Work node lane epoch floor number records delivered) = []
rows_left_in k (Close node lane epoch serial floor mark rows passed) = if node == k then rows else []

-- what a node has yet to work off, where these come
abbrev pub rest : ℕ → Node → List Held → List KeptRec → List KeptRec
rest k node held elements = waiting_from 0 node.lanes ++ flat_map (work_in k) held ++ elements

-- what a node has yet to give below, where these come; the sink gives all of its rows
abbrev pub gives_by : Operator → ℕ → Node → List Held → List Record → List KeptRec → List Record
gives_by (ParDo op) k node held rows elements =
    flat_map (rows_left_in k) held ++ flat_map (outputs_of op) (all_records (rest k node held elements))
gives_by (Windowed grouping) k node held rows elements =
    flat_map (rows_left_in k) held
    ++ at_least (least_begun_mark node.lanes) (operator_rows grouping (node.kept ++ rest k node held elements))
gives_by Sink k node held rows elements = rows ++ all_records (node.kept ++ rest k node held elements)

-- what node k has yet to give
abbrev pub gives : Shape → Moment → ℕ → List KeptRec → List Record
gives plan m k elements = gives_by (operator_at (slice_get plan.steps k)) k (node_at m k) m.held m.rows elements

-- the rows of the whole run, where this comes of the streams: as the plan gives it, where each node gives what it has
-- yet to give
abbrev pub final : Shape → Moment → (Stream → List Record) → List Record
final plan m coming = flow plan (gives plan m) coming

-- what may still come: from the floor of the stream's next epoch on
abbrev pub IsAdmissible : Shape → Moment → (Stream → List Record) → Type 0
IsAdmissible plan m coming =
    (s : Stream) (d : Down) → source plan s ≡ Some d
    → All (λ r. (floor_at m d ≤ r.time) × (r.time ≤ MAX_TIME)) (coming s)

-- whatever comes, the rows of the whole run are those of the plan over what was fed and what comes, each equally often
abbrev pub IsExact : Shape → Moment → (Stream → List Record) → Type 0
IsExact plan m fed =
    (coming : Stream → List Record) → IsAdmissible plan m coming
    → IsReordered (final plan m coming) (output_of plan (λ s. fed s ++ coming s))
