use Rattle.std.proofs.Common.{drop}
use Rattle.sb_hand.proofs.ClosingLinks.{below, here, next-links, next-stands, order}
use Rattle.sb_hand.proofs.Doing.{delivers-next}
use Rattle.sb_hand.proofs.closings.deliver_next.Goals as goal

pub put_at-requires-clause-at : goal.put_at-requires-clause-at
put_at-requires-clause-at c =
    let cl = c.args.closing.now in
    below c.args.plan.now c.requires.ready.is_plan c.args.bundle cl c.args.nodes.now.items (drop c.args.from cl.rows.items) c.requires.ready.can c.requires.ready.linked c.down.result c.down.ensures.down

pub put_at-requires-clause-here : goal.put_at-requires-clause-here
put_at-requires-clause-here c =
    let cl = c.args.closing.now in
    here c.args.plan.now c.requires.ready.is_plan c.args.bundle cl c.args.nodes.now.items (drop c.args.from cl.rows.items) c.requires.ready.can c.requires.ready.linked c.down.result c.down.ensures.down c.args.place c.requires.stands

pub put_at-requires-clause-order : goal.put_at-requires-clause-order
put_at-requires-clause-order c =
    let cl = c.args.closing.now in
    order c.args.plan.now c.requires.ready.is_plan c.args.bundle cl c.args.nodes.now.items (drop c.args.from cl.rows.items) c.requires.ready.can c.requires.ready.linked c.down.result c.down.ensures.down

pub returns-clause-does : goal.returns-clause-does
returns-clause-does c =
    let cl = c.args.closing.now in
    delivers-next c.args.plan.now c.requires.ready.is_plan c.args.bundle cl c.args.nodes.now.items c.put_at.new.nodes.items c.args.from c.min-count.result c.in_ok-records.records c.down.result c.requires.ready.can c.down.ensures.down c.requires.from
    (rw (c.split_at.ensures.back, c.as_slice.ensures.value) at c.min-count.ensures) (rw (c.split_at.ensures.back, c.as_slice.ensures.value) at c.in_ok-records.ensures) c.in_ok-put_at.ensures.puts

pub returns-clause-stands : goal.returns-clause-stands
returns-clause-stands c =
    let cl = c.args.closing.now in
    next-stands c.args.plan.now c.requires.ready.is_plan c.args.bundle cl c.args.nodes.now.items (drop c.args.from cl.rows.items) c.requires.ready.can c.requires.ready.linked c.down.result c.down.ensures.down c.put_at.new.nodes.items c.in_ok-records.records c.in_ok-put_at.ensures.puts c.args.place c.in_ok-put_at.ensures.links c.requires.stands

pub returns-clause-links : goal.returns-clause-links
returns-clause-links c =
    let cl = c.args.closing.now in
    next-links c.args.plan.now c.requires.ready.is_plan c.args.bundle cl c.args.nodes.now.items (drop c.args.from cl.rows.items) c.requires.ready.can c.requires.ready.linked c.down.result c.down.ensures.down c.put_at.new.nodes.items c.in_ok-records.records c.in_ok-put_at.ensures.puts c.in_ok-put_at.ensures.links
