use Rattle.std.proofs.Common.{sym, map}
use Rattle.sb_pipeline.specs.records.Streams.{least_of}
use Rattle.sb_checkpoint.specs.Saved.{record_item}
use Rattle.sb_checkpoint.proofs.Keepings.{kept_again}
use Rattle.sb_checkpoint.proofs.keeper.Keeper.mark.Goals as goal

pub returns-in-A : goal.returns-in-A
returns-in-A c =
    let k = c.self.inside in
    let v = least_of k.streams k.mark_a k.mark_b in
    let w = least_of k.streams c.args.mark k.mark_b in
    let le = rw (c.in-A.is, ← c.self.view_is) at c.requires in
    let same = sym (kept_again k.reach v w le (map record_item k.records.items)) in
    rw (c.in-A.is, ← c.self.view_is) (λ i. record { streams = k.streams; reach = k.reach; lines = k.lines; mark_a = c.args.mark; mark_b = k.mark_b; records = same i })

pub returns-in-B : goal.returns-in-B
returns-in-B c =
    let k = c.self.inside in
    let v = least_of k.streams k.mark_a k.mark_b in
    let w = least_of k.streams k.mark_a c.args.mark in
    let le = rw (c.in-B.is, ← c.self.view_is) at c.requires in
    let same = sym (kept_again k.reach v w le (map record_item k.records.items)) in
    rw (c.in-B.is, ← c.self.view_is) (λ i. record { streams = k.streams; reach = k.reach; lines = k.lines; mark_a = k.mark_a; mark_b = c.args.mark; records = same i })
