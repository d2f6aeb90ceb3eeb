use Rattle.std.proofs.Common.{◌≡◌, ◌≤◌, length, sym, ap, ◌∙◌, arith}
use Rattle.std.proofs.lemmas.Bool.{leb-true}
use Rattle.sb_pipeline.specs.records.Streams.{least_of}
use Rattle.sb_checkpoint.specs.Checkpoints.{low_of}
use Rattle.sb_checkpoint.specs.Saved.{items_in}
use Rattle.sb_checkpoint.proofs.SoFar.{low_is, whole_is}
use Rattle.sb_checkpoint.proofs.gathering.is_whole.Goals.{then-item_count-checkpoint, else-item_count-checkpoint}
use Rattle.sb_checkpoint.proofs.gathering.is_whole.Goals as goal

pub returns-then-checkpoint-le-MAX_LINES : goal.returns-then-checkpoint-le-MAX_LINES
returns-then-checkpoint-le-MAX_LINES c =
    let own = c.args.checkpoint.now in
    let least : low_of c.args.plan.now (items_in own) ≡ c.least.result =
    low_is c.args.plan.now own.records.items own.mark_a own.mark_b ∙ sym (c.least.ensures ∙ ap (λ s. least_of s own.mark_a own.mark_b) c.streams.ensures.value)
    in
    elim c.if-item_count-checkpoint.branch [
      | then-item_count-checkpoint w ↦
          let few : length (items_in own) ≤ own.lines = omega (arith, w.if-item_count-checkpoint.true, c.item_count.ensures) in
          let most : own.lines ≤ 4294967295 = leb-true own.lines 4294967295 (sym w.value-is ∙ c.if-checkpoint-le-MAX_LINES.true) in
          whole_is (length (items_in own)) own.lines own.low c.least.result (low_of c.args.plan.now (items_in own)) few most least
      | else-item_count-checkpoint w ↦
          let few = leb-true c.item_count.result own.lines (sym w.value-is ∙ c.if-checkpoint-le-MAX_LINES.true) in
          absurd (omega (arith, few, w.if-item_count-checkpoint.false))
    ]
