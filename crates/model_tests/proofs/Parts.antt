-- What becomes of a bundle at a node that gathers, where nothing has closed yet.
use Rattle.std.proofs.Common.{◌≡◌, ℕ, List, [], ◌∷◌, arith}
use Rattle.sb_hand.specs.base.records.declared.item.Record.{Record}
use Rattle.sb_hand.specs.base.records.Elements.{on_lane}
use Rattle.sb_hand.specs.base.window.Groupings.{IsFrom}
use Rattle.sb_hand.specs.base.pipeline.Operators.{Operator}
use Rattle.sb_hand.specs.base.pipeline.Operators.Operator.{ParDo, Windowed, Sink}
use Rattle.sb_hand.specs.work.declared.outputs.Output.TheVariants as output
use Rattle.sb_hand.specs.work.declared.outputs.Part.{Part}
use Rattle.sb_hand.specs.work.Processing.{IsOutput, IsPart}

-- a part is what becomes of a bundle at a node that gathers
pub part_of_output : (op : Operator) (lane : ℕ) (records : List Record) (p : Part) → IsOutput op lane records (output.Part p) → IsPart op lane records p
part_of_output (ParDo op) lane records p h = absurd h
part_of_output (Windowed w) lane records p h = h
part_of_output Sink lane records p h = h

-- no time is below the first mark
pub from_zero : (mark lane : ℕ) (records : List Record) → mark ≡ 0 → IsFrom mark (on_lane lane records)
from_zero mark lane [] is = tt
from_zero mark lane (r ∷ records) is = (omega (arith, is), from_zero mark lane records is)
