use Rattle.std.proofs.Common.{◌≡◌, ◌+◌, ◌≤◌, length, drop, Some, sym, ap, ◌∙◌, arith}
use Rattle.std.specs.List.{slice_get, slice_set, remove}
use Rattle.sb_core.specs.declared.moment.Moment.{Moment}
use Rattle.sb_core.specs.Moments.{set_node, set_lane, with_held}
use Rattle.sb_machine.proofs.FromHeld.{close-in, close-lane, end-done}
use Rattle.sb_core.proofs.places.InPlace.{place, node-written, lane-there, node-read, lane-read}
use Rattle.sb_machine.proofs.closings.end.Goals as goal

pub prove-unreachable-requires : goal.prove-unreachable-requires
prove-unreachable-requires c =
    let m = c.args.moment.now in
    let k = c.args.node in
    let l = c.in-Some.close.lane in
    let lane = close-lane m c.in-Some.ensures.found c.as_slice.ensures c.requires.0 c.requires.1 in
    let nodes : c.nodes.inside.items.items ≡ m.nodes = c.nodes.view_is ∙ ap (λ (m : Moment). m.nodes) c.moment.view_is in
    let node = c.index_mut.result.now in
    let old = c.index_mut-at.result.now in
    let at : slice_get m.nodes k ≡ Some node = node-read m (place k l) lane.1 nodes c.index_mut.ensures.value in
    let in_it : slice_get node.lanes l ≡ Some old = lane-read m (place k l) lane.1 nodes c.index_mut.ensures.value c.lanes.view_is c.index_mut-at.ensures.value in
    let ended : old.ended ≤ length old.marks = (c.requires.1.lanes (place k l) old (lane-there m k node at l old in_it)).ended_in in
    let same : length c.as_slice-2.result.now ≡ length old.marks = ap length c.as_slice-2.ensures in
    omega (arith, c.if-prove.true)

pub returns-clause-becomes : goal.returns-clause-becomes
returns-clause-becomes c =
    let m = c.args.moment.now in
    let k = c.args.node in
    let h = c.in-Some.close in
    let l = h.lane in
    let others = remove m.held h.place in
    let found = close-in m c.in-Some.ensures.found c.as_slice.ensures in
    let lane = close-lane m c.in-Some.ensures.found c.as_slice.ensures c.requires.0 c.requires.1 in
    let nodes : c.nodes.inside.items.items ≡ m.nodes = c.nodes.view_is ∙ ap (λ (m : Moment). m.nodes) c.moment.view_is in
    let node = c.index_mut.result.now in
    let old = c.index_mut-at.result.now in
    let at : slice_get m.nodes k ≡ Some node = node-read m (place k l) lane.1 nodes c.index_mut.ensures.value in
    let in_it : slice_get node.lanes l ≡ Some old = lane-read m (place k l) lane.1 nodes c.index_mut.ensures.value c.lanes.view_is c.index_mut-at.ensures.value in
    let left : c.remove.new.self.items ≡ others = c.remove.ensures.items ∙ ap (λ (m : Moment). remove m.held h.place) c.moment.view_is in
    let ended = set_lane l (record old { conts = drop 1 old.conts; ended = old.ended + 1 }) node in
    end-done m k l h.epoch h.serial h.floor h.mark h.rows.now h.passed others found node old at in_it c.if-not-close.false
    ∙ sym (
    (λ z. Some (record { bundle = c.moment.inside.0.0; nodes = slice_set c.nodes.inside.items.items k (record node { lanes = slice_set (c.lanes.view_is z) l (c.end.ensures z) }); held = c.remove.new.self.items; rows = c.moment.inside.0.1.1.1.0 }))
    ∙ ap Some (node-written m c.moment.inside.0.0 c.nodes.inside.items.items c.moment.inside.0.1.0 c.moment.inside.0.1.1.0.items.items c.remove.new.self.items c.moment.inside.0.1.1.1.0 k ended c.nodes.view_is c.moment.view_is)
    ∙ ap (λ hs. Some (set_node k ended (with_held hs m))) left)
