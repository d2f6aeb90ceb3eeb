use Rattle.std.proofs.Common.{length}
use Rattle.sb_shown.specs.core.containers.Lanes.{next_epoch, with_seal}
use Rattle.sb_shown.specs.diary.declared.event.DiaryEvent.TheVariants as line
use Rattle.sb_shown.specs.lane.LaneView.{lane_of}
use Rattle.sb_shown.proofs.lane.Results.{on_ok}
use Rattle.sb_shown.specs.node.LinkChanges.{GetsPlace}
use Rattle.sb_hand.proofs.AtNodes.{goes, has-lane, turns}
use Rattle.sb_hand.proofs.events.seal_at.Goals as goal

pub seal-requires-clause-lane : goal.seal-requires-clause-lane
seal-requires-clause-lane c = let at = c.requires.0 in let h = c.requires.1 in (at, (has-lane c.args.nodes.now.items c.args.place.node c.args.place.lane c.index_mut-own.result.now at h c.index_mut-own.ensures.value))

pub returns-clause-seals : goal.returns-clause-seals
returns-clause-seals c = on_ok c.seal.result (λ seals at h. turns c.args.nodes.now.items c.args.place.node c.args.place.lane c.index_mut-own.result.now at h c.index_mut-own.ensures.value c.reserve.new.self _ c.in_ok-reserve.ensures.ok _ (with_seal c.args.mark (lane_of at)) (GetsPlace (length at.marks)) (line.Seal c.args.place.lane (next_epoch (lane_of at)) c.args.mark) (seals at (has-lane c.args.nodes.now.items c.args.place.node c.args.place.lane c.index_mut-own.result.now at h c.index_mut-own.ensures.value))) c.seal.ensures.seals

pub returns-clause-links : goal.returns-clause-links
returns-clause-links c = on_ok c.seal.result (λ seals. goes c.args.nodes.now.items c.args.place.node c.args.place.lane c.index_mut-own.result.now _ c.index_mut-own.ensures.value (λ was. GetsPlace (length was.marks) was) (λ at there. let t = seals at there in (t.now, t.sets.lanes, t.linked))) c.seal.ensures.seals
