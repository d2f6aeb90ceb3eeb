use Rattle.std.proofs.Common.{rules, ◌≡◌, ◌+◌, length, subst}
use Rattle.std.specs.List.{AllByRecursion}
use Rattle.sb_worker.specs.cascade.Calls.{view_of}
use Rattle.sb_worker.specs.Helping.{IsFirst, IsHelper}
use Rattle.sb_engines.proofs.PassesHeld.{All-front, fed-same, first-joined}
use Rattle.sb_engines.proofs.shared.handing.join_all.Goals as goal

pub helpers-preserved : goal.helpers-preserved
helpers-preserved c =
    let cascade = c.args.cascade.now in
    let p = c.helpers.pass in
    let q = c.join.new.pass in
    let inv = c.helpers.invariant in
    let joined = c.join.ensures.pass in
    let one : length c.helpers.helpers.items ≡ length c.pop.new.self.items + 1 = search rules in
    let all : AllByRecursion (IsHelper cascade) c.pop.new.self.items = All-front (IsHelper cascade) c.pop.new.self.items _ (subst (AllByRecursion (IsHelper cascade)) c.in-Some.ensures.items inv.helpers) in
    record {
      first = first-joined cascade p q joined.0 joined.1 joined.2 (length c.pop.new.self.items) (view_of c.in-Some.helper) c.join.ensures.view (subst (λ n. IsFirst cascade n p) one inv.first);
      helpers = all;
      fed = λ f rows h. fed-same cascade p q joined.0 joined.1 joined.2 f rows (inv.fed f rows h);
    }
