-- What a transform takes of what arrives at its node, and what it gives for that.
use Rattle.std.specs.Prelude.{ℕ, List, [], if◌then◌else◌, flat_map, Option, Some, None}
use Rattle.sb_base.specs.records.declared.item.Record.{Record}
use Rattle.sb_base.specs.records.declared.element.KeptRec.{KeptRec}
use Rattle.sb_base.specs.records.Elements.{all_records, of_lane}
use Rattle.sb_base.specs.pardo.Outputs.{outputs_of}
use Rattle.sb_base.specs.windowed.Aggregates.{aggregate_rows}
use Rattle.sb_base.specs.windowed.Sessions.{session_rows}
use Rattle.sb_base.specs.windowed.Joins.{join_rows}
use Rattle.sb_base.specs.pipeline.declared.transform.Kind.{Kind}
use Rattle.sb_base.specs.pipeline.declared.transform.Kind.TheVariants.{Do, Group, Session, Join}
use Rattle.sb_base.specs.pipeline.Plans.{is_join}

-- the lane whose records a transform takes first: a join takes those of lane 0, any other takes those of all lanes
abbrev pub first_lane : Kind → Option ℕ
first_lane kind = if is_join kind then Some 0 else None

-- the records that a transform takes first, and those that a join takes beside them
abbrev pub first_input : Kind → List KeptRec → List Record
first_input kind elements = if is_join kind then of_lane 0 elements else all_records elements

abbrev pub second_input : Kind → List KeptRec → List Record
second_input kind elements = if is_join kind then of_lane 1 elements else []

-- what a transform gives for them
abbrev pub given_for : Kind → List Record → List Record → List Record
given_for (Do op) first second = flat_map (outputs_of op) first
given_for (Group agg windows) first second = aggregate_rows agg windows first
given_for (Session agg gap) first second = session_rows agg gap first
given_for (Join combine windows) first second = join_rows combine windows first second
