use Rattle.std.proofs.Common.{◌+◌, length}
use Rattle.sb_shown.specs.core.containers.Lanes.{with_arrival}
use Rattle.sb_shown.specs.diary.declared.event.DiaryEvent.TheVariants as line
use Rattle.sb_shown.specs.lane.LaneView.{lane_of}
use Rattle.sb_shown.proofs.lane.Results.{ok-map, ok-some}
use Rattle.sb_shown.specs.node.LinkChanges.{FindsPlace}
use Rattle.sb_hand.proofs.AtNodes.{goes, has-lane, lane-there, turns}
use Rattle.sb_hand.proofs.events.put_first.Goals as goal

pub put_first-requires-clause-lane : goal.put_first-requires-clause-lane
put_first-requires-clause-lane c = let at = c.requires.at.0 in let h = c.requires.at.1 in (at, (has-lane c.args.nodes.now.items c.args.down.node c.args.down.lane c.index_mut-own.result.now at h c.index_mut-own.ensures.value))

pub put_first-requires-clause-order : goal.put_first-requires-clause-order
put_first-requires-clause-order c = λ at there. c.requires.order at (lane-there c.args.nodes.now.items c.args.down.node c.args.down.lane c.index_mut-own.result.now c.requires.at.0 c.requires.at.1 c.index_mut-own.ensures.value at there)

pub returns-clause-puts : goal.returns-clause-puts
returns-clause-puts c = ok-some c.put_first.result (λ place puts at h. let t = puts at (has-lane c.args.nodes.now.items c.args.down.node c.args.down.lane c.index_mut-own.result.now at h c.index_mut-own.ensures.value) in (t.0, turns c.args.nodes.now.items c.args.down.node c.args.down.lane c.index_mut-own.result.now at h c.index_mut-own.ensures.value c.reserve.new.self _ c.in_ok-reserve.ensures.ok _ (with_arrival c.args.bundle.epoch c.args.bundle.floor c.args.bundle.records (lane_of at)) (FindsPlace c.args.bundle.epoch place) (line.Arrive c.args.down.lane c.args.bundle.epoch (at.arrived + 1) (length c.args.bundle.records)) t.1)) c.put_first.ensures.puts

pub returns-clause-links : goal.returns-clause-links
returns-clause-links c = ok-map c.put_first.result (λ place puts. goes c.args.nodes.now.items c.args.down.node c.args.down.lane c.index_mut-own.result.now _ c.index_mut-own.ensures.value (FindsPlace c.args.bundle.epoch place) (λ at there. let t = (puts at there).1 in (t.now, t.sets.lanes, t.linked))) c.put_first.ensures.puts
