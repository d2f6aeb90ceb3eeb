use Rattle.std.proofs.Common.{◌≡◌, ◌++◌, ◌∷◌, [], map, ap, ◌∙◌}
use Rattle.std.specs.List.{filter}
use Rattle.sb_pipeline.specs.records.Streams.{least_of}
use Rattle.sb_checkpoint.specs.Checkpoints.{is_kept}
use Rattle.sb_checkpoint.specs.Saved.{record_item}
use Rattle.sb_checkpoint.proofs.Keepings.{kept_behind}
use Rattle.sb_checkpoint.proofs.keeper.Keeper.add.Goals as goal

pub returns : goal.returns
returns c =
    let k = c.self.inside in
    let w = least_of k.streams k.mark_a k.mark_b in
    let same : filter (is_kept k.reach w) (map record_item c.push.new.records.items) ≡ filter (is_kept k.reach w) (filter (is_kept k.reach w) (map record_item k.records.items) ++ c.args.next.now ∷ []) =
    ap (filter (is_kept k.reach w)) c.in_ok-push.ensures ∙ kept_behind k.reach w (map record_item k.records.items) (c.args.next.now ∷ []) in
    let inside = c.self.view_is ∙ c.make_room.ensures in
    rw (← inside) (λ i. record { streams = k.streams; reach = k.reach; lines = k.lines; mark_a = k.mark_a; mark_b = k.mark_b; records = same i })
