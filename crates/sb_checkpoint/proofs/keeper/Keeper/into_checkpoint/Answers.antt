use Rattle.std.proofs.Common.{◌≡◌, ◌++◌, length, map, ap, ◌∙◌, arith}
use Rattle.sb_pipeline.specs.records.Streams.{least_of}
use Rattle.sb_checkpoint.specs.Checkpoints.{kept_of, mark_items, saved_items}
use Rattle.sb_checkpoint.specs.Keeping.{low_in}
use Rattle.sb_checkpoint.specs.Saved.{record_item}
use Rattle.sb_checkpoint.proofs.Keepings.{from_kept_by}
use Rattle.sb_checkpoint.proofs.Runs.{length_saved}
use Rattle.sb_checkpoint.proofs.keeper.Keeper.into_checkpoint.Goals as goal

pub returns : goal.returns
returns c = λ plan items is.
    let k = c.self.inside in
    let all = c.self.view_is ∙ is in
    let w = least_of k.streams k.mark_a k.mark_b in
    let from = rw (← c.self.view_is) at c.from-from.ensures in
    let kept : map record_item c.keep_from.new.records.items ≡ kept_of plan items =
    ap (map record_item) c.keep_from.ensures ∙ from_kept_by k.reach w c.from-from.result from k.records.items ∙ ap (λ v. v.records) all in
    let saved : map record_item c.keep_from.new.records.items ++ mark_items k.mark_a k.mark_b ≡ saved_items plan items =
    λ i. kept i ++ mark_items ((all i).mark_a) ((all i).mark_b) in
    let as_long = ap length saved in
    let lines : k.lines ≡ length items = ap (λ v. v.lines) all in
    let fewer = length_saved plan items in
    record {
      lines = lines;
      low = c.low-low.ensures ∙ ap low_in is;
      mark_a = ap (λ v. v.mark_a) all;
      mark_b = ap (λ v. v.mark_b) all;
      saved = saved;
      room = omega (arith, as_long, lines, fewer);
    }
