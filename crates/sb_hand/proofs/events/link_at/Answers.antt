use Rattle.std.proofs.Common.{ap}
use Rattle.sb_shown.specs.diary.Diaries.{Written}
use Rattle.sb_shown.specs.node.LinkChanges.{GetsLink}
use Rattle.sb_hand.proofs.AtNodes.{goes, has-lane, shows-same}
use Rattle.sb_hand.proofs.events.link_at.Goals as goal

pub link-requires : goal.link-requires
link-requires c = let at = c.requires.0 in let h = c.requires.1 in (at, (has-lane c.args.nodes.now.items c.args.node 0 c.index_mut-own.result.now at h c.index_mut-own.ensures.value))

pub returns-clause-stays : goal.returns-clause-stays
returns-clause-stays c = λ at h.
    let t = c.link.ensures at (has-lane c.args.nodes.now.items c.args.node 0 c.index_mut-own.result.now at h c.index_mut-own.ensures.value) in
    shows-same c.args.nodes.now.items c.args.node 0 c.index_mut-own.result.now at h c.index_mut-own.ensures.value _ t.now t.lanes t.rest.kept t.rest.closings (ap (λ (d : Written). d.events) t.diary) (ap (λ (d : Written). d.keeps) t.diary) t.is t.limit

pub returns-clause-links : goal.returns-clause-links
returns-clause-links c = goes c.args.nodes.now.items c.args.node 0 c.index_mut-own.result.now _ c.index_mut-own.ensures.value (GetsLink c.args.epoch c.args.place) (λ at there. let t = c.link.ensures at there in (t.now, t.lanes, t.linked))
