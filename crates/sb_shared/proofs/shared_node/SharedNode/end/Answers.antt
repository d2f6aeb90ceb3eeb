use Rattle.std.proofs.Common.{rules, ◌≤◌, arith, ap}
use Rattle.sb_shown.specs.core.containers.declared.container.CoreLane.{CoreLane}
use Rattle.sb_shown.specs.lane.Placed.{conts_of}
use Rattle.sb_shown.specs.node.Changes.{HasLane}
use Rattle.sb_shared.proofs.diaries.Promises.{owed_of, owed-ended}
use Rattle.sb_shared.proofs.diaries.Rooms.{room-set, room-is}
use Rattle.std.specs.Prelude.{◌-◌}
use Rattle.sb_shared.proofs.diaries.Promises.{owed-in}
use Rattle.sb_shared.proofs.shared_node.SharedNode.end.Goals as goal

pub end-requires-clause-room : goal.end-requires-clause-room
end-requires-clause-room c =
    let has_room = room-is c.self.inside.promised c.deref_mut-own.result.now c.self.inside.own.value c.deref_mut-own.ensures.value c.self.invariant in
    let at = c.requires.lane in
    let has : HasLane c.args.lane at.0 c.deref_mut-own.result.now = search rules in
    omega (arith, owed-ended (conts_of at.0.containers) at.2, owed-in c.deref_mut-own.result.now.lanes.items c.args.lane at.0 has, has_room.0, has_room.1)

pub overflow_sub-self : goal.overflow_sub-self
overflow_sub-self c =
    let has_room = room-is c.self.inside.promised c.deref_mut-own.result.now c.self.inside.own.value c.deref_mut-own.ensures.value c.self.invariant in
    let at = c.requires.lane in
    let has : HasLane c.args.lane at.0 c.deref_mut-own.result.now = search rules in
    omega (arith, owed-ended (conts_of at.0.containers) at.2, owed-in c.deref_mut-own.result.now.lanes.items c.args.lane at.0 has, has_room.0)

pub invariant_of-self : goal.invariant_of-self
invariant_of-self c =
    let has_room = room-is c.self.inside.promised c.deref_mut-own.result.now c.self.inside.own.value c.deref_mut-own.ensures.value c.self.invariant in
    let at = c.requires.lane in
    let own = c.deref_mut-own.result.now in
    let p = c.self.inside.promised in
    let has : HasLane c.args.lane at.0 own = search rules in
    let turn = c.end.ensures at.0 has in
    let e = ap (λ (l : CoreLane). owed_of l.conts) turn.is in
    let n = owed-ended (conts_of at.0.containers) at.2 in
    let some : 1 ≤ p = omega (arith, n, owed-in own.lanes.items c.args.lane at.0 has, has_room.0) in
    room-set p (p - 1) c.args.lane at.0 turn.now _ own c.end.new.self turn.sets has_room (omega (arith, e, n, some)) (omega (arith, some, has_room.1))
