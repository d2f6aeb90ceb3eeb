use Rattle.sb_shown.specs.diary.declared.event.DiaryEvent.TheVariants as line
use Rattle.sb_shown.specs.lane.LaneView.{lane_of}
use Rattle.sb_shown.specs.lane.Placed.{conts_of}
use Rattle.sb_shown.specs.lane.Taking.{finish_first}
use Rattle.sb_shown.specs.node.LinkChanges.{LinksStay}
use Rattle.sb_hand.proofs.AtNodes.{goes, has-lane, turns}
use Rattle.sb_hand.proofs.events.finish_at.Goals as goal

pub finish-requires-clause-lane : goal.finish-requires-clause-lane
finish-requires-clause-lane c = let at = c.requires.0 in let h = c.requires.1 in (at, (has-lane c.args.nodes.now.items c.args.node c.args.lane c.index_mut-own.result.now at h c.index_mut-own.ensures.value))

pub returns-clause-finishes : goal.returns-clause-finishes
returns-clause-finishes c = λ at h. turns c.args.nodes.now.items c.args.node c.args.lane c.index_mut-own.result.now at h c.index_mut-own.ensures.value c.reserve.new.self _ c.in_ok-reserve.ensures.ok _ (record (lane_of at) { conts = finish_first c.args.epoch c.args.number (conts_of at.containers) }) LinksStay (line.Finish c.args.lane c.args.number c.args.length) (c.finish.ensures at (has-lane c.args.nodes.now.items c.args.node c.args.lane c.index_mut-own.result.now at h c.index_mut-own.ensures.value))

pub returns-clause-links : goal.returns-clause-links
returns-clause-links c = goes c.args.nodes.now.items c.args.node c.args.lane c.index_mut-own.result.now _ c.index_mut-own.ensures.value LinksStay (λ at there. let t = c.finish.ensures at there in (t.now, t.sets.lanes, t.linked))
