-- What a source gave in a call, and what is accepted of it.
use Rattle.std.specs.Prelude.{◌≡◌, ℕ, Bool, true, false, List, Option}
use Rattle.std.specs.Io.KnownBytes.{Consumes, IsAtEnd}
use Rattle.sb_base.specs.records.declared.item.Item.{Item}
use Rattle.sb_base.specs.records.declared.intake.Stop.{Stop}
use Rattle.sb_base.specs.records.Inputs.{Accepted, accepted, stop_of}
use Rattle.sb_outside.specs.Lines.{lines}
use Rattle.sb_base.specs.pipeline.Shapes.{Shape, streams_of}

-- the bytes that a source gave, where it is told, and whether it has said that no more follow
pub record Given (left left' : Option (List ℕ)) : Type 0 where
  pub bytes : List ℕ
  pub were_left : Consumes left left' bytes
  pub ended : Bool
  pub at_end : ended ≡ true → IsAtEnd left'

-- their lines
abbrev pub lines_of : {left left' : Option (List ℕ)} → Given left left' → List (List ℕ)
lines_of given = lines given.ended given.bytes

-- what a plan accepts of their lines
abbrev pub accepted_of : {left left' : Option (List ℕ)} → Shape → Given left left' → Accepted
accepted_of plan given = accepted (streams_of plan) plan.late plan.keys (lines given.ended given.bytes)

-- the accepted items
abbrev pub items_of : {left left' : Option (List ℕ)} → Shape → Given left left' → List Item
items_of plan given = (accepted_of plan given).items

-- what is accepted of them as a first part of an input: a rest behind the last line feed is no line
abbrev pub part_accepted : {left left' : Option (List ℕ)} → Shape → Given left left' → Accepted
part_accepted plan given = accepted (streams_of plan) plan.late plan.keys (lines false given.bytes)

-- the accepted items of a first part
abbrev pub part_items : {left left' : Option (List ℕ)} → Shape → Given left left' → List Item
part_items plan given = (part_accepted plan given).items

-- where reading stopped
abbrev pub stop_at : {left left' : Option (List ℕ)} → Shape → Given left left' → Stop
stop_at plan given = stop_of given.ended (accepted_of plan given).refused
