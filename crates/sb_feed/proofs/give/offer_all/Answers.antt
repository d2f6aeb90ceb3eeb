use Rattle.std.proofs.Common.{arith}
use Rattle.sb_feed.proofs.OfferedRows.{next_offered, next_stops, none_offered}
use Rattle.sb_feed.proofs.give.offer_all.Goals as goal

pub rows-init : goal.rows-init
rows-init g c = (none_offered _, omega arith)

pub rows-preserved : goal.rows-preserved
rows-preserved g c =
    let few = c.in-Ok.ensures.fewer in
    let before = c.rows.invariant.1 in
    (next_offered c.args.rows.now c.rows.row-index c.row-item.result _ _ _ c.row-item.is c.rows-test.true c.rows.invariant.0 c.in-Ok.ensures.offers, omega (arith, few, before))

pub returns-in-Err-Failed-clause-offers : goal.returns-in-Err-Failed-clause-offers
returns-in-Err-Failed-clause-offers g c =
    rw c.in-Err-Failed.place-is (next_stops c.args.rows.now c.rows.row-index c.row-item.result _ _ _ _ c.row-item.is c.rows-test.true c.rows.invariant.0 (rw c.in-Err-Failed.field-0-is at c.in-Err-Failed.ensures.offers))
