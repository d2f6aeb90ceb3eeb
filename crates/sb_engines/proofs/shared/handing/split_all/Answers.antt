use Rattle.std.proofs.Common.{rules, ◌≡◌, ◌≤◌, ◌+◌, length, subst, sym}
use Rattle.std.specs.List.{AllByRecursion}
use Rattle.std.specs.Vec.{vec_capacity}
use Rattle.sb_alone.proofs.feeds.base.records.Elements.{All-join}
use Rattle.sb_worker.specs.Helping.{IsFirst, IsHelper}
use Rattle.sb_engines.proofs.PassesHeld.{fed-same, first-split, new-helper}
use Rattle.sb_engines.proofs.shared.handing.split_all.Goals as goal

pub helpers-preserved : goal.helpers-preserved
helpers-preserved c =
    let cascade = c.args.cascade.now in
    let p = c.helpers.pass in
    let q = c.split.new.pass in
    let inv = c.helpers.invariant in
    let split = c.split.ensures.pass in
    let other = c.split.ensures.other in
    let one : length c.push_reserved.new.self.items ≡ length c.helpers.helpers.items + 1 = search rules in
    let most : length c.push_reserved.new.self.items ≤ c.args.count = search rules in
    let room : c.args.count ≤ vec_capacity c.push_reserved.new.self = search rules in
    record {
      first = subst (λ n. IsFirst cascade n q) (sym one) (first-split cascade p q split.0 split.1 split.2 (length c.helpers.helpers.items) c.split.ensures.view inv.first);
      helpers = subst (AllByRecursion (IsHelper cascade)) (sym c.push_reserved.ensures.items)
          (All-join (IsHelper cascade) c.helpers.helpers.items _ inv.helpers (new-helper cascade c.split.result other.0 other.1 other.2, tt));
      most = most;
      room = room;
      fed = λ f rows h. fed-same cascade p q split.0 split.1 split.2 f rows (inv.fed f rows h);
    }
