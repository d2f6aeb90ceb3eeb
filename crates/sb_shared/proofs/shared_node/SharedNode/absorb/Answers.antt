use Rattle.std.proofs.Common.{rules, ◌≤◌, arith, ap}
use Rattle.sb_shown.specs.core.containers.declared.container.CoreLane.{CoreLane}
use Rattle.sb_shown.specs.lane.Placed.{conts_of}
use Rattle.sb_shown.specs.node.Changes.{HasLane}
use Rattle.sb_shared.proofs.diaries.Promises.{owed_of, owed-finished}
use Rattle.sb_shared.proofs.diaries.Rooms.{room-set, room-is}
use Rattle.std.specs.Prelude.{◌-◌}
use Rattle.sb_shown.specs.node.Changes.{Absorbs}
use Rattle.sb_shared.proofs.diaries.Promises.{owed-in}
use Rattle.sb_shared.proofs.shared_node.SharedNode.absorb.Goals as goal

pub absorb-requires-clause-room : goal.absorb-requires-clause-room
absorb-requires-clause-room c =
    let has_room = room-is c.self.inside.promised c.deref_mut-own.result.now c.self.inside.own.value c.deref_mut-own.ensures.value c.self.invariant in
    let at = c.requires.lane in
    let has : HasLane c.args.lane at.0 c.deref_mut-own.result.now = search rules in
    omega (arith, owed-finished c.args.epoch c.args.number (conts_of at.0.containers) at.2, owed-in c.deref_mut-own.result.now.lanes.items c.args.lane at.0 has, has_room.0, has_room.1)

pub overflow_sub-self : goal.overflow_sub-self
overflow_sub-self c =
    let has_room = room-is c.self.inside.promised c.deref_mut-own.result.now c.self.inside.own.value c.deref_mut-own.ensures.value c.self.invariant in
    let at = c.requires.lane in
    let has : HasLane c.args.lane at.0 c.deref_mut-own.result.now = search rules in
    omega (arith, owed-finished c.args.epoch c.args.number (conts_of at.0.containers) at.2, owed-in c.deref_mut-own.result.now.lanes.items c.args.lane at.0 has, has_room.0)

pub invariant_of-self-2 : goal.invariant_of-self-2
invariant_of-self-2 c =
    let has_room = room-is c.self.inside.promised c.deref_mut-own.result.now c.self.inside.own.value c.deref_mut-own.ensures.value c.self.invariant in
    let at = c.requires.lane in
    let own = c.deref_mut-own.result.now in
    let p = c.self.inside.promised in
    let has : HasLane c.args.lane at.0 own = search rules in
    let turn : Absorbs c.args.lane at.0 c.args.epoch c.args.number c.args.part own c.absorb.new.self = search rules in
    let e = ap (λ (l : CoreLane). owed_of l.conts) turn.is in
    let n = owed-finished c.args.epoch c.args.number (conts_of at.0.containers) at.2 in
    let some : 1 ≤ p = omega (arith, n, owed-in own.lanes.items c.args.lane at.0 has, has_room.0) in
    room-set p (p - 1) c.args.lane at.0 turn.now _ own c.absorb.new.self turn.sets has_room (omega (arith, e, n, some)) (omega (arith, some, has_room.1))

pub returns-clause-absorbs : goal.returns-clause-absorbs
returns-clause-absorbs c = λ at has0.
    let own = c.deref_mut-own.result.now in
    let has : HasLane c.args.lane at own = search rules in
    let turn : Absorbs c.args.lane at c.args.epoch c.args.number c.args.part own c.absorb.new.self = search rules in
    record { room = own.diary.spare; own = search rules; tray = search rules; spent = search rules }
