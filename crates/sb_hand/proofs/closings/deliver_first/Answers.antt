use Rattle.std.proofs.Common.{drop, subst, zero-add}
use Rattle.sb_hand.specs.Runs.{Delivers}
use Rattle.sb_hand.proofs.ClosingLinks.{below, first-links, first-stands, other, placed-order}
use Rattle.sb_hand.proofs.Doing.{delivers-next}
use Rattle.sb_hand.proofs.closings.deliver_first.Goals as goal

pub put_first-requires-clause-at : goal.put_first-requires-clause-at
put_first-requires-clause-at c =
    let cl = c.args.closing.now in
    below c.args.plan.now c.requires.can.ready.is_plan c.args.bundle cl c.args.nodes.now.items cl.rows.items c.requires.can.ready.can c.requires.can.ready.linked c.down.result c.down.ensures.down

pub put_first-requires-clause-order : goal.put_first-requires-clause-order
put_first-requires-clause-order c =
    let cl = c.args.closing.now in
    placed-order c.args.plan.now c.requires.can.ready.is_plan c.args.bundle cl c.args.nodes.now.items cl.rows.items c.requires.can.ready.can c.requires.can.ready.linked c.down.result c.down.ensures.down

pub returns-clause-does : goal.returns-clause-does
returns-clause-does c =
    let cl = c.args.closing.now in
    subst (λ n. Delivers c.args.plan.now c.args.bundle cl c.args.nodes.now.items cl.rows.items c.put_first.new.nodes.items (drop n cl.rows.items)) (zero-add c.min-count.result)
    (delivers-next c.args.plan.now c.requires.can.ready.is_plan c.args.bundle cl c.args.nodes.now.items c.put_first.new.nodes.items 0 c.min-count.result c.in_ok-records.records c.down.result c.requires.can.ready.can c.down.ensures.down c.requires.some
    (rw (c.as_slice-rows.ensures.value) at c.min-count.ensures) (rw (c.as_slice-rows.ensures.value) at c.in_ok-records.ensures) c.in_ok-place.ensures.puts)

pub returns-clause-stands : goal.returns-clause-stands
returns-clause-stands c =
    let cl = c.args.closing.now in
    first-stands c.args.plan.now c.requires.can.ready.is_plan c.args.bundle cl c.args.nodes.now.items cl.rows.items c.requires.can.ready.can c.requires.can.ready.linked c.down.result c.down.ensures.down c.put_first.new.nodes.items c.in_ok-records.records c.in_ok-place.ensures.puts c.in_ok-place.place c.in_ok-place.ensures.links

pub returns-clause-links : goal.returns-clause-links
returns-clause-links c =
    let cl = c.args.closing.now in
    first-links c.args.plan.now c.requires.can.ready.is_plan c.args.bundle cl c.args.nodes.now.items cl.rows.items c.requires.can.ready.can c.requires.can.ready.linked c.down.result c.down.ensures.down c.put_first.new.nodes.items c.in_ok-records.records c.in_ok-place.ensures.puts c.in_ok-place.place c.in_ok-place.ensures.links
    (c.requires.can.none (other c.args.plan.now c.requires.can.ready.is_plan c.args.bundle cl c.args.nodes.now.items cl.rows.items c.requires.can.ready.can c.requires.some)) c.requires.some
