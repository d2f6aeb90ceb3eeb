use Rattle.std.proofs.Common.{◌≡◌, ap, ◌∙◌, map}
use Rattle.std.specs.List.{filter}
use Rattle.sb_pipeline.specs.records.Streams.{least_of}
use Rattle.sb_checkpoint.specs.Checkpoints.{is_kept}
use Rattle.sb_checkpoint.specs.Saved.{record_item}
use Rattle.sb_checkpoint.proofs.Keepings.{kept_pruned}
use Rattle.sb_checkpoint.proofs.keeper.Keeper.prune.Goals as goal

pub returns : goal.returns
returns c =
    let k = c.self.inside in
    let w = least_of k.streams k.mark_a k.mark_b in
    let is = rw (← c.self.view_is) at c.from-from.ensures in
    let same : filter (is_kept k.reach w) (map record_item c.keep_from.new.records.items) ≡ filter (is_kept k.reach w) (map record_item k.records.items) =
    ap (λ l. filter (is_kept k.reach w) (map record_item l)) c.keep_from.ensures ∙ kept_pruned k.reach w c.from-from.result is k.records.items in
    rw (← c.self.view_is) (λ i. record { streams = k.streams; reach = k.reach; lines = k.lines; mark_a = k.mark_a; mark_b = k.mark_b; records = same i })
