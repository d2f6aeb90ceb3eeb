-- What each node of a plan does.
use Rattle.std.specs.Prelude.{ℕ, List, flat_map, Option, Some, None}
use Rattle.sb_windowed.specs.records.declared.item.Record.{Record}
use Rattle.sb_windowed.specs.window.Spacing.{Spacing}
use Rattle.sb_pardo.specs.declared.operation.Op.{Op}
use Rattle.sb_pardo.specs.Outputs.{outputs_of}
use Rattle.sb_windowed.specs.declared.aggregate.Agg.{Agg}
use Rattle.sb_windowed.specs.Aggregates.{aggregate_rows}
use Rattle.sb_windowed.specs.Sessions.{session_rows}
use Rattle.sb_windowed.specs.declared.join.Combine.{Combine}
use Rattle.sb_windowed.specs.Joins.{join_rows}
use Rattle.sb_windowed.specs.records.declared.element.KeptRec.{KeptRec}
use Rattle.sb_pipeline.specs.declared.transform.Kind.{Kind}
use Rattle.sb_pipeline.specs.declared.transform.Kind.TheVariants.{Do, Group, Session, Join}
use Rattle.sb_pipeline.specs.declared.transform.Step.{Step}
use Rattle.sb_windowed.specs.records.Elements.{all_records, of_lane}

-- the transforms that gather records by window or session
pub data WindowOperator : Type 0 where
  Aggregated : (agg : Agg) (windows : Spacing) → WindowOperator
  Sessions : (agg : Agg) (gap : ℕ) → WindowOperator
  Joined : (combine : Combine) (windows : Spacing) → WindowOperator

-- what a node does: the sink takes what the last transform gives
pub data Operator : Type 0 where
  ParDo : (op : Op) → Operator
  Windowed : (grouping : WindowOperator) → Operator
  Sink : Operator

-- what a transform of this kind does
abbrev pub operator_of : Kind → Operator
operator_of (Do op) = ParDo op
operator_of (Group agg windows) = Windowed (Aggregated agg windows)
operator_of (Session agg gap) = Windowed (Sessions agg gap)
operator_of (Join combine windows) = Windowed (Joined combine windows)

-- that of a transform, or of the sink where there is none
abbrev pub operator_at : Option Step → Operator
operator_at None = Sink
operator_at (Some step) = operator_of step.kind

-- how many lanes the node has
abbrev pub lanes_of : Operator → ℕ
lanes_of (ParDo op) = 1
lanes_of (Windowed (Aggregated agg windows)) = 1
lanes_of (Windowed (Sessions agg gap)) = 1
lanes_of (Windowed (Joined combine windows)) = 2
lanes_of Sink = 1

-- how much later than its records the end of a window or a session can be
abbrev pub reach : WindowOperator → ℕ
reach (Aggregated agg windows) = windows.size
reach (Sessions agg gap) = gap
reach (Joined combine windows) = windows.size

-- what a window operator gives over all of its input
abbrev pub operator_rows : WindowOperator → List KeptRec → List Record
operator_rows (Aggregated agg windows) elements = aggregate_rows agg windows (all_records elements)
operator_rows (Sessions agg gap) elements = session_rows agg gap (all_records elements)
operator_rows (Joined combine windows) elements = join_rows combine windows (of_lane 0 elements) (of_lane 1 elements)

-- what a node gives over all of its input; the sink gives it as it is
abbrev pub output : Operator → List KeptRec → List Record
output (ParDo op) elements = flat_map (outputs_of op) (all_records elements)
output (Windowed grouping) elements = operator_rows grouping elements
output Sink elements = all_records elements
