use Rattle.std.proofs.Common.{◌+◌, drop}
use Rattle.sb_shown.specs.diary.declared.event.DiaryEvent.TheVariants as line
use Rattle.sb_shown.specs.lane.LaneView.{lane_of}
use Rattle.sb_shown.specs.lane.Placed.{conts_of}
use Rattle.sb_shown.specs.node.LinkChanges.{DropsLink}
use Rattle.sb_hand.proofs.AtNodes.{goes, has-lane, turns}
use Rattle.sb_hand.proofs.events.end_at.Goals as goal

pub end-requires-clause-lane : goal.end-requires-clause-lane
end-requires-clause-lane c = let at = c.requires.0 in let h = c.requires.1 in (at, (has-lane c.args.nodes.now.items c.args.node c.args.lane c.index_mut-own.result.now at h c.index_mut-own.ensures.value), c.requires.2, c.requires.3)

pub returns-clause-ends : goal.returns-clause-ends
returns-clause-ends c = λ at h. turns c.args.nodes.now.items c.args.node c.args.lane c.index_mut-own.result.now at h c.index_mut-own.ensures.value c.reserve.new.self _ c.in_ok-reserve.ensures.ok _ (record (lane_of at) { conts = drop 1 (conts_of at.containers); ended = at.ended + 1 }) DropsLink (line.End c.args.lane c.args.epoch) (c.end.ensures at (has-lane c.args.nodes.now.items c.args.node c.args.lane c.index_mut-own.result.now at h c.index_mut-own.ensures.value))

pub returns-clause-links : goal.returns-clause-links
returns-clause-links c = goes c.args.nodes.now.items c.args.node c.args.lane c.index_mut-own.result.now _ c.index_mut-own.ensures.value DropsLink (λ at there. let t = c.end.ensures at there in (t.now, t.sets.lanes, t.linked))
