use Rattle.std.proofs.Common.{sym, ◌∙◌}
use Rattle.sb_pipeline.specs.records.Streams.{last_or, watermark_in}
use Rattle.sb_checkpoint.proofs.LastMarks.{last-more}
use Rattle.sb_checkpoint.proofs.checkpoint.last_mark.Goals as goal

pub items-preserved : goal.items-preserved
items-preserved c =
    c.mark_after-last.ensures
    ∙ (λ i. last_or (c.items.invariant i) (watermark_in c.args.stream (c.item-item.is i)))
    ∙ sym (last-more c.args.stream c.args.items.now c.items.item-index c.item-item.result c.items-test.true)
