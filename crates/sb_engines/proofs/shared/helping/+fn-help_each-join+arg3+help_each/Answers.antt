use denote.Param.Send.{arg_send, param_send, sendable}
use Rattle.std.proofs.Common.{rules, subst}
use Rattle.std.proofs.Crossing.{crosses}
use Rattle.std.specs.List.{AllByRecursion}
use Rattle.sb_worker.proofs.Crossing.{Bound-lent, Cascade-lent, Five-send, Heap-lent, Pass-send}
use Rattle.sb_worker.specs.Helping.{IsHelper}
use Rattle.sb_engines.proofs.PassesHeld.{All-front, All-last}
use Rattle.sb_engines.proofs.shared.helping.+fn-help_each-join+arg3+help_each.Goals as goal

pub join-one-requires-send-F : goal.join-one-requires-send-F
join-one-requires-send-F g n c κs within =
    search (param_send, arg_send, Five-send, Bound-lent, Heap-lent, Cascade-lent, Pass-send, c.requires.1, c.requires.2) depth 20

pub join-one-requires-send-A : goal.join-one-requires-send-A
join-one-requires-send-A g n c κs within = search (sendable, crosses, Pass-send) depth 60

pub join-one-requires-after_bounds : goal.join-one-requires-after_bounds
join-one-requires-after_bounds g t c κs within =
    let all = subst (AllByRecursion (IsHelper c.args.cascade.now)) c.in-Some.ensures.items c.requires.0 in (
      (All-last (IsHelper c.args.cascade.now) c.pop.new.self.items c.in-Some.pass all, search c.requires.2 depth 20),
      (
        search rules,
        (λ a h. h, (λ a h. h, ((All-front (IsHelper c.args.cascade.now) c.pop.new.self.items _ all, c.requires.1, c.requires.2), (c.requires.1, c.requires.2)))),
      ),
    )
