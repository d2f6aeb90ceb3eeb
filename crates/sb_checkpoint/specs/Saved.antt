-- What a checkpoint has, as items.
use Rattle.std.specs.Prelude.{List, ◌++◌, map}
use Rattle.sb_pipeline.specs.records.declared.item.Item.{Item}
use Rattle.sb_pipeline.specs.records.declared.item.Item.TheVariants.{Rec}
use Rattle.sb_checkpoint.specs.declared.checkpoint.StreamRec.{StreamRec}
use Rattle.sb_checkpoint.specs.declared.checkpoint.Checkpoint.{Checkpoint}
use Rattle.sb_checkpoint.specs.Checkpoints.{mark_items}

-- the record as an item
abbrev pub record_item : StreamRec → Item
record_item r = Rec r.stream r.rec

-- the records, and then the watermarks that are above 0
abbrev pub items_in : Checkpoint → List Item
items_in c = map record_item c.records.items ++ mark_items c.mark_a c.mark_b
