use Rattle.std.proofs.Common.{◌≡◌, ◌++◌, map, filter, length, ap, ◌∙◌, arith}
use Rattle.sb_pipeline.specs.records.Streams.{least_of}
use Rattle.sb_checkpoint.specs.Checkpoints.{is_kept, low_of, mark_items, saved_items}
use Rattle.sb_checkpoint.specs.Saved.{record_item}
use Rattle.sb_checkpoint.proofs.Runs.{length_saved}
use Rattle.sb_checkpoint.proofs.checkpoint.checkpoint_of.Goals as goal

pub returns-clause-room : goal.returns-clause-room
returns-clause-room c =
    let items = c.args.items.now in
    let plan = c.args.plan.now in
    let low_is : c.least-low.result ≡ low_of plan items =
    c.least-low.ensures ∙ (λ i. least_of (c.streams.ensures.value i) (c.last_mark-mark_a.ensures i) (c.last_mark-mark_b.ensures i)) in
    let kept = c.in_ok-records.ensures ∙ (λ i. filter (is_kept (c.reach.ensures.value i) (low_is i)) items) in
    let same : map record_item c.in_ok-records.records.items ++ mark_items c.last_mark-mark_a.result c.last_mark-mark_b.result ≡ saved_items plan items =
    λ i. kept i ++ mark_items (c.last_mark-mark_a.ensures i) (c.last_mark-mark_b.ensures i) in
    let as_long : length (map record_item c.in_ok-records.records.items ++ mark_items c.last_mark-mark_a.result c.last_mark-mark_b.result) ≡ length (saved_items plan items) = ap length same in
    let fewer = length_saved plan items in
    omega (arith, c.requires.lines, fewer, as_long)
