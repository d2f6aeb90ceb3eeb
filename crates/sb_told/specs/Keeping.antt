-- What is kept of the items of an input.
use Rattle.std.specs.Prelude.{◌≡◌, List, ◌++◌}
use Rattle.sb_feed.specs.base.records.declared.item.Item.{Item}
use Rattle.sb_feed.specs.base.records.declared.item.Stream.TheVariants.{A, B}
use Rattle.sb_feed.specs.base.records.Streams.{record_in, records_of, dropped_in, dropped_of}
use Rattle.sb_told.specs.declared.kept.Kept.{Kept}

-- the records of each stream among the items, and the late records that were dropped
pub record AreKept (kept : Kept) (items : List Item) : Type 0 where
  pub a : kept.a ≡ records_of A items
  pub b : kept.b ≡ records_of B items
  pub dropped : kept.dropped ≡ dropped_of items

-- what there is to keep of an item is kept behind the rest
pub record Keeps (before after : Kept) (item : Item) : Type 0 where
  pub a : after.a ≡ before.a ++ record_in A item
  pub b : after.b ≡ before.b ++ record_in B item
  pub dropped : after.dropped ≡ before.dropped ++ dropped_in item
