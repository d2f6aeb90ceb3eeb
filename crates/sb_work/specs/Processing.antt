-- What becomes of a bundle: what a transform of single records gives for it, or what a node that gathers records
-- takes in.
use Rattle.std.specs.Prelude.{◌≡◌, ℕ, ◌==◌, if◌then◌else◌, List, flat_map}
use Rattle.sb_base.specs.records.declared.item.Record.{Record}
use Rattle.sb_base.specs.pardo.Outputs.{outputs_of}
use Rattle.sb_base.specs.windowed.declared.join.Side.{Side}
use Rattle.sb_base.specs.windowed.declared.join.Side.TheVariants.{Left, Right}
use Rattle.sb_base.specs.pipeline.Operators.{Operator}
use Rattle.sb_base.specs.pipeline.Operators.Operator.{ParDo, Windowed, Sink}
use Rattle.sb_base.specs.pipeline.Operators.WindowOperator.{Aggregated, Sessions, Joined}
use Rattle.sb_work.specs.declared.outputs.Output.{Output}
use Rattle.sb_work.specs.declared.outputs.Output.TheVariants as output
use Rattle.sb_work.specs.declared.outputs.Part.{Part}
use Rattle.sb_work.specs.declared.outputs.Part.TheVariants.{Agg, Join, Rows}

-- the side of a join that its lane is
abbrev pub side_of : ℕ → Side
side_of lane = if lane == 0 then Left else Right

-- the part of a node that gathers records, of records on a lane: an aggregate groups them by its windows, a join puts
-- them into its windows on a side, and sessions and the sink take them as they are
abbrev pub IsPart : Operator → ℕ → List Record → Part → Type 0
IsPart (Windowed (Aggregated agg windows)) lane records (Agg part) =
    part ≡ record { agg = agg; windows = windows; records = records }
IsPart (Windowed (Sessions agg gap)) lane records (Rows rows) = rows.items ≡ records
IsPart (Windowed (Joined combine windows)) lane records (Join part) =
    part ≡ record { windows = windows; side = side_of lane; records = records }
IsPart Sink lane records (Rows rows) = rows.items ≡ records
IsPart operator lane records part = ⊥

-- what becomes of records on a lane
abbrev pub IsOutput : Operator → ℕ → List Record → Output → Type 0
IsOutput (ParDo op) lane records (output.Records given) = given.items ≡ flat_map (outputs_of op) records
IsOutput (ParDo op) lane records (output.Part part) = ⊥
IsOutput operator lane records (output.Records given) = ⊥
IsOutput operator lane records (output.Part part) = IsPart operator lane records part
