-- What is kept of the accepted items of an input while they are read.
use Rattle.std.specs.Prelude.{◌≡◌, ◌≤◌, ℕ, ◌+◌, List, [], ◌∷◌, ◌++◌, filter, length, ⊤}
use Rattle.sb_pipeline.specs.records.declared.item.Item.{Item}
use Rattle.sb_pipeline.specs.records.declared.item.Item.TheVariants.{Rec, Mark, Skip, Late}
use Rattle.sb_pipeline.specs.records.declared.item.Stream.{Stream}
use Rattle.sb_pipeline.specs.records.declared.item.Stream.TheVariants.{A, B}
use Rattle.sb_pipeline.specs.records.declared.item.Streams.{Streams}
use Rattle.sb_pipeline.specs.records.Streams.{last_watermark, least_of}
use Rattle.sb_pipeline.specs.Shapes.{Shape, streams_of}
use Rattle.sb_checkpoint.specs.Reach.{reach}
use Rattle.sb_checkpoint.specs.Checkpoints.{is_kept, kept_of, low_of, saved_items}
use Rattle.sb_checkpoint.specs.Saved.{items_in}
use Rattle.sb_checkpoint.specs.declared.checkpoint.Checkpoint.{Checkpoint}

-- the streams of a plan and its reach, the number of items, the last watermark of each stream, and the records that can
-- still be part of a row
pub record Kept : Type 0 where
  pub streams : Streams
  pub reach : ℕ
  pub lines : ℕ
  pub mark_a : ℕ
  pub mark_b : ℕ
  pub records : List Item

-- the low watermark
abbrev pub low_in : Kept → ℕ
low_in k = least_of k.streams k.mark_a k.mark_b

-- of these the items that are kept
abbrev pub kept_in : Kept → List Item → List Item
kept_in k items = filter (is_kept k.reach (low_in k)) items

-- the item is a record
abbrev pub IsRecord : Item → Type 0
IsRecord (Rec s r) = ⊤
IsRecord (Mark s t) = ⊥
IsRecord Skip = ⊥
IsRecord (Late l t m) = ⊥

-- with one record more
abbrev pub with_record : Item → Kept → Kept
with_record item k = record k { records = kept_in k (k.records ++ item ∷ []) }

-- with another watermark of the stream
abbrev pub with_watermark : Stream → ℕ → Kept → Kept
with_watermark A t k = record k { mark_a = t }
with_watermark B t k = record k { mark_b = t }

-- so that records below the new low watermark are kept no longer
abbrev pub with_mark : Stream → ℕ → Kept → Kept
with_mark s t k = record (with_watermark s t k) { records = kept_in (with_watermark s t k) k.records }

-- with one line more
abbrev pub with_line : Kept → Kept
with_line k = record k { lines = k.lines + 1 }

-- with one item more
abbrev pub with_item : Item → Kept → Kept
with_item (Rec s r) k = with_record (Rec s r) (with_line k)
with_item (Mark s t) k = with_mark s t (with_line k)
with_item Skip k = with_line k
with_item (Late l t m) k = with_line k

-- what is kept of these items
abbrev pub kept_after : Shape → List Item → Kept
kept_after plan items = record {
  streams = streams_of plan;
  reach = reach plan;
  lines = length items;
  mark_a = last_watermark A items;
  mark_b = last_watermark B items;
  records = kept_of plan items;
}

-- the checkpoint of these items, each of which is a line
pub record IsCheckpointOf (plan : Shape) (items : List Item) (c : Checkpoint) : Type 0 where
  pub lines : c.lines ≡ length items
  pub low : c.low ≡ low_of plan items
  pub mark_a : c.mark_a ≡ last_watermark A items
  pub mark_b : c.mark_b ≡ last_watermark B items
  pub saved : items_in c ≡ saved_items plan items
  pub room : length (items_in c) ≤ c.lines
