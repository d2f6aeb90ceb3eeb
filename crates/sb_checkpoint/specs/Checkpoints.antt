-- What a checkpoint keeps of the items of an input, and what is read in their place. Each line of an input is one item:
-- that of a late record that was dropped too.
use Rattle.std.specs.Prelude.{ℕ, ◌-◌, ◌==◌, Bool, false, if◌then◌else◌, List, [], ◌∷◌, ◌++◌, filter, length, replicate}
use Rattle.sb_pipeline.specs.records.declared.item.Item.{Item}
use Rattle.sb_pipeline.specs.records.declared.item.Item.TheVariants.{Rec, Mark, Skip, Late}
use Rattle.sb_pipeline.specs.records.declared.item.Record.{Record}
use Rattle.sb_pipeline.specs.records.declared.item.Stream.{Stream}
use Rattle.sb_pipeline.specs.records.declared.item.Stream.TheVariants.{A, B}
use Rattle.sb_pipeline.specs.records.Streams.{records_of, last_watermark, low_watermark}
use Rattle.sb_pipeline.specs.Shapes.{Shape, streams_of}
use Rattle.sb_checkpoint.specs.Reach.{reach, is_within}

-- whether the item is a record with a time at most n before w
abbrev pub is_kept : ℕ → ℕ → Item → Bool
is_kept n w (Rec s r) = is_within n w r.time
is_kept n w (Mark s t) = false
is_kept n w Skip = false
is_kept n w (Late l t m) = false

-- the low watermark of the items
abbrev pub low_of : Shape → List Item → ℕ
low_of plan items = low_watermark (streams_of plan) items

-- the records that can still be part of a row from the low watermark on, in order
abbrev pub kept_of : Shape → List Item → List Item
kept_of plan items = filter (is_kept (reach plan) (low_of plan items)) items

-- the watermark as an item, where there is one
abbrev pub mark_item : Stream → ℕ → List Item
mark_item s t = if t == 0 then [] else Mark s t ∷ []

-- these watermarks of a and b, where there are such
abbrev pub mark_items : ℕ → ℕ → List Item
mark_items a b = mark_item A a ++ mark_item B b

-- the items of the checkpoint: the records that are kept, and the last watermark of each stream that has one
abbrev pub saved_items : Shape → List Item → List Item
saved_items plan items = kept_of plan items ++ mark_items (last_watermark A items) (last_watermark B items)

-- the items, and before them comments until there are so many items
abbrev pub with_comments : ℕ → List Item → List Item
with_comments lines items = replicate (lines - length items) Skip ++ items

-- what a resumed run reads in place of the items: a comment for each line more, and those of the checkpoint
abbrev pub resumed_items : Shape → List Item → List Item
resumed_items plan items = with_comments (length items) (saved_items plan items)

-- the records of each stream among the items
abbrev pub streams_in : List Item → Stream → List Record
streams_in items s = records_of s items
