use Rattle.std.proofs.Common.{◌≡◌, filter, map, take}
use Rattle.sb_checkpoint.specs.Checkpoints.{is_kept}
use Rattle.sb_checkpoint.specs.Saved.{record_item}
use Rattle.sb_checkpoint.proofs.checkpoint.kept_records.Given as goal

abbrev pub invariant-items : goal.invariant-items
invariant-items l = map record_item l.records.items ≡ filter (is_kept l.reach l.low) (take l.item-index l.items)
