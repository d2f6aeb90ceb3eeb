-- What comes out of the rings of two record files, and which of it is taken.
use Rattle.std.specs.Prelude.{◌≡◌, ℕ, Bool, true, false, ◌&&◌, ◌+◌, nat_le, nat_lt, if◌then◌else◌, List, [], ◌∷◌, ◌++◌}
use Rattle.std.specs.Prelude.{length, flat_map, Option, Some, None}
use Rattle.sb_engines.specs.feeds.base.records.declared.intake.Stop.{Stop}
use Rattle.sb_engines.specs.feeds.base.records.declared.intake.Stop.TheVariants as at
use Rattle.sb_engines.specs.feeds.base.records.declared.item.Item.{Item}
use Rattle.sb_engines.specs.feeds.base.records.declared.item.Item.TheVariants as item
use Rattle.sb_engines.specs.feeds.base.records.declared.item.Stream.{Stream}
use Rattle.sb_engines.specs.feeds.base.records.declared.item.Stream.TheVariants.{A, B}
use Rattle.sb_engines.specs.feeds.base.records.declared.item.Streams.{Streams}
use Rattle.sb_engines.specs.feeds.base.records.declared.item.TheConstants.{END_MARK, MAX_TIME}
use Rattle.sb_engines.specs.feeds.base.records.Streams.{last_watermark, records_of, uses, watermark_in}
use Rattle.sb_engines.specs.feeds.one_feed.Calls.{calls_of}
use Rattle.sb_engines.specs.feeds.declared.fed.Fed.{Fed}
use Rattle.sb_engines.specs.feeds.declared.fed.Fed.TheVariants as fed
use Rattle.sb_engines.specs.feeds.declared.fed.FeedStop.{FeedStop}
use Rattle.sb_engines.specs.feeds.declared.fed.FeedStop.TheVariants as feed_stop
use Rattle.sb_engines.specs.feeds.Ends.{values_received}
use Rattle.sb_engines.specs.feeds.declared.limits.TheConstants.{MAX_FILE_LENGTH}
use Rattle.sb_run.specs.declared.files.inlet.Inlet.{Inlet}
use Rattle.sb_run.specs.declared.files.inlets.Inlets.{Inlets}
use Rattle.sb_run.specs.declared.files.inlets.FilesStop.{FilesStop}
use Rattle.sb_run.specs.declared.files.inlets.FilesStop.TheVariants.{End, Refused}
use Rattle.sb_engines.specs.feeds.base.Inputs.{by_stream}

-- whether the two are the same stream
abbrev pub is_stream : Stream → Stream → Bool
is_stream A A = true
is_stream A B = false
is_stream B A = false
is_stream B B = true

-- whether an item may be taken next of the file of a stream, whose last watermark is this, after so many items
abbrev pub is_next : Stream → Bool → ℕ → ℕ → Item → Bool
is_next s used mark count (item.Rec t r) =
    nat_lt count MAX_FILE_LENGTH && ((used && is_stream s t) && (nat_le mark r.time && nat_le r.time MAX_TIME))
is_next s used mark count (item.Mark t m) =
    nat_lt count MAX_FILE_LENGTH && ((used && is_stream s t) && (nat_le mark m && nat_le m END_MARK))
is_next s used mark count item.Skip = false
is_next s used mark count (item.Late n t m) = nat_lt count MAX_FILE_LENGTH

-- the last watermark behind the item
abbrev pub mark_behind : ℕ → Item → ℕ
mark_behind mark (item.Rec t r) = mark
mark_behind mark (item.Mark t m) = m
mark_behind mark item.Skip = mark
mark_behind mark (item.Late n t m) = mark

-- the items that were taken of a stream, with the next value of its ring
abbrev pub with_value : Streams → Stream → List Item → Fed → List Item
with_value streams s items (fed.Item i) =
    if is_next s (uses streams s) (last_watermark s items) (length items) i then items ++ i ∷ [] else items
with_value streams s items (fed.Stop stop) = items

abbrev pub items_after : Streams → Stream → List Item → List Fed → List Item
items_after streams s items [] = items
items_after streams s items (value ∷ values) = items_after streams s (with_value streams s items value) values

-- the items that are taken of the values of a stream's ring
abbrev pub items_taken : Streams → Stream → List Fed → List Item
items_taken streams s values = items_after streams s [] values

-- the first stop among the values
abbrev pub stop_among : List Fed → Option FeedStop
stop_among [] = None
stop_among (fed.Item i ∷ values) = stop_among values
stop_among (fed.Stop stop ∷ values) = Some stop

-- what was taken of the values that came out of a stream's ring
abbrev pub items_of_inlet : Streams → Stream → Inlet → List Item
items_of_inlet streams s i = items_taken streams s (values_received i.inward)

-- the receiving end of a stream's ring says what was taken of the values so far, and which stop is among them
pub record IsInlet (streams : Streams) (s : Stream) (i : Inlet) : Type 0 where
  pub stream : i.stream ≡ s
  pub used : i.used ≡ uses streams s
  pub mark : i.mark ≡ last_watermark s (items_of_inlet streams s i)
  pub count : i.count ≡ length (items_of_inlet streams s i)
  pub stop : i.stop ≡ stop_among (values_received i.inward)

pub record AreInlets (streams : Streams) (i : Inlets) : Type 0 where
  pub of_a : IsInlet streams A i.a
  pub of_b : IsInlet streams B i.b

-- the values that came out of each ring so far
abbrev pub values_of : Inlets → Stream → List Fed
values_of i = by_stream (values_received i.a.inward) (values_received i.b.inward)

-- the item was taken of a stream's ring, or none was
abbrev pub PopsOne : Streams → Stream → Inlet → Inlet → Option Item → Type 0
PopsOne streams s old new None =
    IsInlet streams s new × (items_of_inlet streams s new ≡ items_of_inlet streams s old)
PopsOne streams s old new (Some i) =
    IsInlet streams s new
    × (items_of_inlet streams s new ≡ items_of_inlet streams s old ++ i ∷ [])
    × (is_next s (uses streams s) (last_watermark s (items_of_inlet streams s old))
    (length (items_of_inlet streams s old)) i ≡ true)

-- the other of the two streams
abbrev pub other_than : Stream → Stream
other_than A = B
other_than B = A

-- the item, with the stream that it was taken of
abbrev pub with_stream : Stream → Option Item → Option (Stream × Item)
with_stream s None = None
with_stream s (Some i) = Some (s, i)

-- the item, of the one of two streams that it was taken of
abbrev pub item_for : Stream → Item → Stream → List Item
item_for A i A = i ∷ []
item_for A i B = []
item_for B i A = []
item_for B i B = i ∷ []

-- the item was taken of the ring of a stream, or none was
abbrev pub PopsNext : Streams → Inlets → Inlets → Option (Stream × Item) → Type 0
PopsNext streams old new None =
    AreInlets streams new
    × ((s : Stream) → items_taken streams s (values_of new s) ≡ items_taken streams s (values_of old s))
PopsNext streams old new (Some (s, i)) =
    AreInlets streams new
    × ((t : Stream)
    → items_taken streams t (values_of new t) ≡ items_taken streams t (values_of old t) ++ item_for s i t)
    × (is_next s (uses streams s) (last_watermark s (items_taken streams s (values_of old s)))
    (length (items_taken streams s (values_of old s))) i ≡ true)

-- why the reading of two files stopped: at the refused line of file a, or else at that of file b, or at both ends
abbrev pub files_stop : FeedStop → FeedStop → FilesStop
files_stop (feed_stop.Refused refusal) b = Refused A refusal
files_stop feed_stop.End (feed_stop.Refused refusal) = Refused B refusal
files_stop feed_stop.End feed_stop.End = End

abbrev pub files_stop_if : Option FeedStop → Option FeedStop → Option FilesStop
files_stop_if (Some a) (Some b) = Some (files_stop a b)
files_stop_if (Some a) None = None
files_stop_if None b = None

-- where the reading of one input would have stopped so
abbrev pub as_stop : FilesStop → Stop
as_stop End = at.End
as_stop (Refused stream refusal) = at.Refused refusal

-- an order of the items that leaves those of each stream in their own order
pub record AreMerged (items : List Item) (own : Stream → List Item) : Type 0 where
  pub calls : (s : Stream) → calls_of s items ≡ calls_of s (own s)
  pub marks : (s : Stream) → flat_map (watermark_in s) items ≡ flat_map (watermark_in s) (own s)
  pub records : (s : Stream) → records_of s items ≡ records_of s (own s)
  pub many : length items ≡ length (own A) + length (own B)
