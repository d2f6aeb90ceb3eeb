use Rattle.std.proofs.Common.{◌≡◌, take}
use Rattle.sb_pipeline.specs.records.Streams.{last_watermark}
use Rattle.sb_checkpoint.proofs.checkpoint.last_mark.Given as goal

abbrev pub invariant-items : goal.invariant-items
invariant-items l = l.last ≡ last_watermark l.stream (take l.item-index l.items)
