-- What a list of items says of each stream.
use Rattle.std.specs.Prelude.{ℕ, Bool, min, if◌then◌else◌, List, [], ◌∷◌, flat_map}
use Rattle.sb_record.specs.declared.item.Dropped.{Dropped}
use Rattle.sb_record.specs.declared.item.Record.{Record}
use Rattle.sb_record.specs.declared.item.Stream.{Stream}
use Rattle.sb_record.specs.declared.item.Stream.TheVariants.{A, B}
use Rattle.sb_record.specs.declared.item.Streams.{Streams}
use Rattle.sb_record.specs.declared.item.Item.{Item}
use Rattle.sb_record.specs.declared.item.Item.TheVariants.{Rec, Mark, Late}

-- whether the stream is one of these
abbrev pub uses : Streams → Stream → Bool
uses streams A = streams.a
uses streams B = streams.b

-- the record of the stream that the item is, if it is one
abbrev pub record_in : Stream → Item → List Record
record_in A (Rec A r) = r ∷ []
record_in B (Rec B r) = r ∷ []
record_in s i = []

-- the watermark of the stream that the item is, if it is one
abbrev pub watermark_in : Stream → Item → List ℕ
watermark_in A (Mark A t) = t ∷ []
watermark_in B (Mark B t) = t ∷ []
watermark_in s i = []

-- the records of the stream, in order
abbrev pub records_of : Stream → List Item → List Record
records_of s items = flat_map (record_in s) items

-- what was dropped, if the item is a late record
abbrev pub dropped_in : Item → List Dropped
dropped_in (Late n t m) = record { line = n; time = t; mark = m } ∷ []
dropped_in i = []

-- the late records that were dropped, in order
abbrev pub dropped_of : List Item → List Dropped
dropped_of items = flat_map dropped_in items

-- the last of the numbers, or n where there is none
abbrev pub last_or : ℕ → List ℕ → ℕ
last_or n [] = n
last_or n (x ∷ xs) = last_or x xs

-- the last watermark of the stream, 0 where it has none
abbrev pub last_watermark : Stream → List Item → ℕ
last_watermark s items = last_or 0 (flat_map (watermark_in s) items)

-- the least of the numbers of the streams, 0 where there is no stream
abbrev pub least_of : Streams → ℕ → ℕ → ℕ
least_of streams a b = if streams.a then (if streams.b then min a b else a) else if streams.b then b else 0

-- the low watermark: the least of the last watermarks of the streams
abbrev pub low_watermark : Streams → List Item → ℕ
low_watermark streams items = least_of streams (last_watermark A items) (last_watermark B items)
