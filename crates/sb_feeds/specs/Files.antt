-- Two record files, one of each stream, and what a plan accepts of them.
use Rattle.std.specs.Prelude.{◌≡◌, true, false, ℕ, List, ◌++◌, None, Some}
use Rattle.sb_feed.specs.base.records.declared.intake.Refusal.{Refusal}
use Rattle.sb_feed.specs.base.records.declared.item.Item.{Item}
use Rattle.sb_feed.specs.base.records.declared.item.Stream.{Stream}
use Rattle.sb_feed.specs.base.records.declared.item.Stream.TheVariants.{A, B}
use Rattle.sb_feed.specs.base.records.declared.item.Streams.{Streams}
use Rattle.sb_feed.specs.base.records.Inputs.{Accepted, accepted}
use Rattle.sb_feed.specs.outside.Lines.{lines}
use Rattle.sb_feed.specs.base.pipeline.Shapes.{Shape, streams_of}

-- the stream alone, if it is one of these
abbrev pub stream_alone : Stream → Streams → Streams
stream_alone A streams = record { a = streams.a; b = false }
stream_alone B streams = record { a = false; b = streams.b }

-- what a plan accepts of the file of a stream: by the lines of this file, and of this stream alone
abbrev pub accepted_of_file : Shape → Stream → List ℕ → Accepted
accepted_of_file plan s bytes = accepted (stream_alone s (streams_of plan)) plan.late plan.keys (lines true bytes)

-- the accepted items
abbrev pub items_of_file : Shape → Stream → List ℕ → List Item
items_of_file plan s bytes = (accepted_of_file plan s bytes).items

-- those of both files: the records of a stream are those of its file
abbrev pub items_of_files : Shape → (Stream → List ℕ) → List Item
items_of_files plan files = items_of_file plan A (files A) ++ items_of_file plan B (files B)

-- no line of a file is refused
abbrev pub NoneRefused : Shape → (Stream → List ℕ) → Type 0
NoneRefused plan files = (s : Stream) → (accepted_of_file plan s (files s)).refused ≡ None

-- a line of file a is refused, or one of file b where none of file a is
abbrev pub IsFirstRefused : Shape → (Stream → List ℕ) → Stream → Refusal → Type 0
IsFirstRefused plan files A refusal = (accepted_of_file plan A (files A)).refused ≡ Some refusal
IsFirstRefused plan files B refusal =
    ((accepted_of_file plan A (files A)).refused ≡ None) × ((accepted_of_file plan B (files B)).refused ≡ Some refusal)
