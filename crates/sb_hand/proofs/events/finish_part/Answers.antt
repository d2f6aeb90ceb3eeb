use Rattle.sb_shown.proofs.lane.Results.{on_ok}
use Rattle.sb_shown.specs.node.LinkChanges.{LinksStay}
use Rattle.sb_hand.proofs.AtNodes.{absorbs, goes, has-lane, own-there}
use Rattle.sb_hand.proofs.events.finish_part.Goals as goal

pub absorb-requires-clause-lane : goal.absorb-requires-clause-lane
absorb-requires-clause-lane c =
    let own_is = rw c.node.ensures at c.index_mut-own.ensures.value in
    let at = c.requires.at.0 in
    rw c.lane.ensures (at, has-lane c.args.nodes.now.items c.args.claim.now.node c.args.claim.now.lane c.index_mut-own.result.now at c.requires.at.1 own_is)

pub absorb-requires-clause-takes : goal.absorb-requires-clause-takes
absorb-requires-clause-takes c =
    let own_is = rw c.node.ensures at c.index_mut-own.ensures.value in
    rw c.lane.ensures (λ unspent. (c.args.claim.now.bundle.records, c.requires.takes c.index_mut-own.result.now (own-there c.args.nodes.now.items c.args.claim.now.node c.index_mut-own.result.now c.requires.at.1.own c.requires.at.1.there own_is)))

pub returns-clause-absorbs : goal.returns-clause-absorbs
returns-clause-absorbs c =
    let own_is = rw c.node.ensures at c.index_mut-own.ensures.value in
    rw c.node.ensures (on_ok c.absorb.result (λ takes at h. absorbs c.args.nodes.now.items c.args.claim.now.node c.args.claim.now.lane c.index_mut-own.result.now at h own_is c.reserve.new.self _ c.in_ok-reserve.ensures.ok _ c.args.claim.now.bundle.epoch c.args.claim.now.bundle.number c.args.part (takes at (has-lane c.args.nodes.now.items c.args.claim.now.node c.args.claim.now.lane c.index_mut-own.result.now at h own_is))) (rw (c.lane.ensures, c.epoch.ensures, c.number.ensures) at c.absorb.ensures.absorbs))

pub returns-clause-links : goal.returns-clause-links
returns-clause-links c =
    let own_is = rw c.node.ensures at c.index_mut-own.ensures.value in
    rw c.node.ensures (on_ok c.absorb.result (λ takes. goes c.args.nodes.now.items c.args.claim.now.node c.args.claim.now.lane c.index_mut-own.result.now _ own_is LinksStay (λ at there. let t = takes at there in (t.now, t.sets.lanes, t.linked))) (rw (c.lane.ensures, c.epoch.ensures, c.number.ensures) at c.absorb.ensures.absorbs))
