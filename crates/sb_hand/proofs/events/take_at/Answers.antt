use Rattle.sb_shown.specs.node.LinkChanges.{LinksStay}
use Rattle.sb_hand.proofs.AtNodes.{goes, has-lane, takes}
use Rattle.sb_hand.proofs.events.take_at.Goals as goal

pub take-requires-clause-waits : goal.take-requires-clause-waits
take-requires-clause-waits c = let at = c.requires.0 in let h = c.requires.1 in (at, (has-lane c.args.nodes.now.items c.args.node c.args.lane c.index_mut-own.result.now at h c.index_mut-own.ensures.value), c.requires.2)

pub returns-clause-takes : goal.returns-clause-takes
returns-clause-takes c = λ at h. takes c.args.nodes.now.items c.args.node c.args.lane c.index_mut-own.result.now at h c.index_mut-own.ensures.value c.reserve.new.self _ c.in_ok-reserve.ensures.ok _ c.take.result (c.take.ensures at (has-lane c.args.nodes.now.items c.args.node c.args.lane c.index_mut-own.result.now at h c.index_mut-own.ensures.value))

pub returns-clause-links : goal.returns-clause-links
returns-clause-links c = goes c.args.nodes.now.items c.args.node c.args.lane c.index_mut-own.result.now _ c.index_mut-own.ensures.value LinksStay (λ at there. let t = c.take.ensures at there in (t.now, t.sets.lanes, t.linked))
