-- Moments at rest: no work is left, so the sink has closed as far as the streams are sealed.
use Rattle.std.specs.Prelude.{◌≡◌, ℕ, List, [], ◌++◌, Option, Some, None}
use Rattle.std.specs.List.{AllByRecursion}
use Rattle.sb_containers.specs.base.records.declared.item.Record.{Record}
use Rattle.sb_containers.specs.base.records.declared.item.Stream.{Stream}
use Rattle.sb_containers.specs.base.records.declared.item.Stream.TheVariants.{A, B}
use Rattle.sb_containers.specs.base.records.declared.item.TheConstants.{END_MARK}
use Rattle.sb_containers.specs.base.records.Streams.{least_of}
use Rattle.sb_containers.specs.base.pipeline.declared.transform.Down.{Down}
use Rattle.sb_containers.specs.base.pipeline.Shapes.{Shape, source, streams_of}
use Rattle.sb_containers.specs.base.pipeline.Plans.{IsPlan}
use Rattle.sb_containers.specs.base.pipeline.Results.{rows_below}
use Rattle.sb_containers.specs.declared.container.CoreLane.{CoreLane}
use Rattle.sb_core.specs.declared.moment.Moment.{Moment}
use Rattle.sb_core.specs.Exactness.{IsAdmissible, IsExact}
use Rattle.sb_containers.specs.Lanes.{closable}
use Rattle.sb_core.specs.Laws.{IsDone, written_to}
use Rattle.sb_core.specs.Moments.{lane_at, floor_at}
use Rattle.sb_core.specs.Soundness.{IsSound}

-- workers have nothing in hand, no bundle waits, and no closing can begin
pub record IsAtRest (m : Moment) : Type 0 where
  pub none_held : m.held ≡ []
  pub none_waits : (d : Down) (lane : CoreLane) → lane_at m d ≡ Some lane
      → AllByRecursion (λ c. c.waiting ≡ []) lane.conts
  pub none_closes : (d : Down) (lane : CoreLane) → lane_at m d ≡ Some lane → closable lane.ended lane.conts ≡ None

-- the last mark of a stream's lane: 0 before the first, and where the stream goes nowhere
abbrev pub floor_where : Moment → Option Down → ℕ
floor_where m None = 0
floor_where m (Some d) = floor_at m d

-- the low watermark: the least of the last marks of the streams
abbrev pub low_mark : Shape → Moment → ℕ
low_mark plan m = least_of (streams_of plan) (floor_where m (source plan A)) (floor_where m (source plan B))

-- at rest the sink has closed up to the low watermark
abbrev pub ClosesLow : Type 0
ClosesLow =
    (plan : Shape) → IsPlan plan → (m : Moment) → IsSound plan m → IsAtRest m
    → written_to plan m ≡ low_mark plan m

-- so the rows are the plan's below it, whatever comes
abbrev pub RowsAtRest : Type 0
RowsAtRest =
    (plan : Shape) → IsPlan plan → (m : Moment) (fed coming : Stream → List Record)
    → IsSound plan m → IsExact plan m fed → IsAtRest m → IsAdmissible plan m coming
    → m.rows ≡ rows_below (low_mark plan m) plan (λ s. fed s ++ coming s)

-- each stream's lane is sealed with the last mark
abbrev pub AreAtTheEnd : Shape → Moment → Type 0
AreAtTheEnd plan m = (s : Stream) (d : Down) → source plan s ≡ Some d → floor_at m d ≡ END_MARK

-- then at rest no container is left
abbrev pub Settles : Type 0
Settles = (plan : Shape) → IsPlan plan → (m : Moment) → IsSound plan m → IsAtRest m → AreAtTheEnd plan m → IsDone plan m

-- and the rows are all of the plan's
abbrev pub RowsAtTheEnd : Type 0
RowsAtTheEnd =
    (plan : Shape) → IsPlan plan → (m : Moment) (fed : Stream → List Record)
    → IsSound plan m → IsExact plan m fed → IsAtRest m → AreAtTheEnd plan m
    → m.rows ≡ rows_below END_MARK plan fed
