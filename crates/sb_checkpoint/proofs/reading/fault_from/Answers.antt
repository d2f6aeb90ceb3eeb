use Rattle.std.proofs.Common.{◌+◌, true, false, Err, sym, ap, ◌∙◌}
use Rattle.sb_checkpoint.specs.Saved.{items_in}
use Rattle.sb_checkpoint.proofs.ReadStep.{other-read, last-read, more-read}
use Rattle.sb_checkpoint.proofs.reading.fault_from.Goals as goal

pub returns-then-not-is_last : goal.returns-then-not-is_last
returns-then-not-is_last c =
    let own = c.args.checkpoint.now in
    other-read c.args.plan.now own.lines own.low (items_in own) c.args.line.now c.args.more.now false c.requires c.if-not-is_last.ensures ∙ ap (λ n. Err (n + 2)) (sym c.item_count-count.ensures)

pub returns-then-is_empty : goal.returns-then-is_empty
returns-then-is_empty c =
    let own = c.args.checkpoint.now in
    other-read c.args.plan.now own.lines own.low (items_in own) c.args.line.now c.args.more.now true c.requires c.if-not-is_last.ensures ∙ last-read (items_in own) c.args.more.now c.if-is_empty.ensures

pub returns-else-is_empty : goal.returns-else-is_empty
returns-else-is_empty c =
    let own = c.args.checkpoint.now in
    other-read c.args.plan.now own.lines own.low (items_in own) c.args.line.now c.args.more.now true c.requires c.if-not-is_last.ensures
    ∙ more-read (items_in own) c.args.more.now c.if-is_empty.ensures
    ∙ ap (λ n. Err (n + 3)) (sym c.item_count-count.ensures)
