-- What the items of an input say to the cutter of a stream.
use Rattle.std.specs.Prelude.{List, [], ◌∷◌, flat_map}
use Rattle.sb_base.specs.records.declared.item.Item.{Item}
use Rattle.sb_base.specs.records.declared.item.Item.TheVariants as item
use Rattle.sb_base.specs.records.declared.item.Stream.{Stream}
use Rattle.sb_base.specs.records.declared.item.Stream.TheVariants.{A, B}
use Rattle.sb_base.specs.bundle.Calls.{Call}
use Rattle.sb_base.specs.bundle.Calls.Call.{Push, Mark}

-- what an item says to the cutter of a stream
abbrev pub call_in : Stream → Item → List Call
call_in A (item.Rec A r) = Push r ∷ []
call_in B (item.Rec B r) = Push r ∷ []
call_in A (item.Mark A t) = Mark t ∷ []
call_in B (item.Mark B t) = Mark t ∷ []
call_in s i = []

-- the calls of the stream's cutter
abbrev pub calls_of : Stream → List Item → List Call
calls_of s items = flat_map (call_in s) items
