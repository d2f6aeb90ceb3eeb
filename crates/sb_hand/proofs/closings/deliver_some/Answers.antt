use Rattle.std.proofs.Common.{◌∷◌, [], false, drop}
use Rattle.sb_hand.specs.Runs.{close_of, deliveries}
use Rattle.sb_hand.proofs.Composing.{delivers-then, can-after}
use Rattle.sb_hand.proofs.LinkedEvents.{keeps-then}
use Rattle.sb_hand.proofs.closings.deliver_some.Goals as goal

pub loop-from-init : goal.loop-from-init
loop-from-init c =
    let cl = c.args.closing.now in
    let first = c.in_ok-first.ensures.does in
    record {
      within = c.in_ok-first.ensures.within;
      can = can-after c.args.plan.now c.args.bundle (deliveries cl.node cl.lane first.count) c.args.nodes.now.items c.deliver_first.new.nodes.items (close_of cl cl.rows.items false ∷ []) (close_of cl (drop c.in_ok-first.first cl.rows.items) false ∷ []) [] c.requires.can.ready.can first.does;
      done = first;
      stands = c.in_ok-first.ensures.stands;
      links = c.in_ok-first.ensures.links;
    }

pub loop-from-preserved : goal.loop-from-preserved
loop-from-preserved c =
    let cl = c.args.closing.now in
    let next = c.in_ok-from.ensures.does in
    record {
      within = c.in_ok-from.ensures.more.1;
      can = can-after c.args.plan.now c.args.bundle (deliveries cl.node cl.lane next.count) c.loop-from.nodes.items c.deliver_next.new.nodes.items (close_of cl (drop c.loop-from.from cl.rows.items) false ∷ []) (close_of cl (drop c.in_ok-from.from cl.rows.items) false ∷ []) [] c.loop-from.invariant.can next.does;
      done = delivers-then c.args.plan.now c.args.bundle cl c.args.nodes.now.items c.loop-from.nodes.items c.deliver_next.new.nodes.items cl.rows.items (drop c.loop-from.from cl.rows.items) (drop c.in_ok-from.from cl.rows.items) c.loop-from.invariant.done next;
      stands = c.in_ok-from.ensures.stands;
      links = keeps-then c.args.plan.now c.args.nodes.now.items c.loop-from.nodes.items c.deliver_next.new.nodes.items c.loop-from.invariant.links c.in_ok-from.ensures.links;
    }

pub deliver_next-requires-clause-ready : goal.deliver_next-requires-clause-ready
deliver_next-requires-clause-ready c = record { is_plan = c.requires.can.ready.is_plan; can = c.loop-from.invariant.can; linked = c.loop-from.invariant.links.linked }
