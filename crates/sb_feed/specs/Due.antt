-- The rows that a plan gives over items, and those that are due where reading stopped.
use Rattle.std.specs.Prelude.{◌≡◌, ℕ, List, ◌++◌}
use Rattle.sb_base.specs.records.declared.intake.Stop.{Stop}
use Rattle.sb_base.specs.records.declared.intake.Stop.TheVariants.{End, Refused, Fault}
use Rattle.sb_base.specs.records.declared.item.Dropped.{Dropped}
use Rattle.sb_base.specs.records.declared.item.Item.{Item}
use Rattle.sb_base.specs.records.declared.item.Record.{Record}
use Rattle.sb_base.specs.records.declared.item.Stream.{Stream}
use Rattle.sb_base.specs.records.declared.item.TheConstants.{END_MARK}
use Rattle.sb_base.specs.records.Streams.{dropped_of, low_watermark, records_of}
use Rattle.sb_base.specs.pipeline.Shapes.{Shape, streams_of}
use Rattle.sb_base.specs.pipeline.Results as result

-- the records of each stream among the items
abbrev pub streams_in : List Item → Stream → List Record
streams_in items s = records_of s items

-- the rows with time below a watermark that a plan gives over the items
abbrev pub rows_below : ℕ → Shape → List Item → List Record
rows_below mark plan items = result.rows_below mark plan (streams_in items)

-- the watermark below which rows are due where reading stopped: above all of them at the end, else the low watermark
abbrev pub due_mark : Stop → ℕ → ℕ
due_mark End low = END_MARK
due_mark (Refused refusal) low = low
due_mark Fault low = low

-- the rows that are due where reading stopped
abbrev pub due_rows : Shape → Stop → List Item → List Record
due_rows plan stop items = rows_below (due_mark stop (low_watermark (streams_of plan) items)) plan items

-- these are the first of all rows that the plan gives over the items
pub record AreFirstRows (plan : Shape) (items : List Item) (rows : List Record) : Type 0 where
  pub rest : List Record
  pub are : rows_below END_MARK plan items ≡ rows ++ rest

-- these are the first of the late records that were dropped
pub record AreFirstDropped (items : List Item) (dropped : List Dropped) : Type 0 where
  pub rest : List Dropped
  pub are : dropped_of items ≡ dropped ++ rest
