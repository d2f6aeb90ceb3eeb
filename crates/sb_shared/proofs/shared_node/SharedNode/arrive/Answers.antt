use Rattle.std.proofs.Common.{rules, ◌≡◌, ◌+◌, max, arith, ap, ◌∙◌}
use Rattle.sb_shown.specs.base.bundle.declared.bundle.Bundle.{Bundle}
use Rattle.sb_shown.specs.diary.Diaries.{with_spare}
use Rattle.sb_shown.specs.core.containers.declared.container.CoreLane.{CoreLane}
use Rattle.sb_shown.specs.lane.Placed.{conts_of}
use Rattle.sb_shown.specs.node.declared.state.NodeState.{NodeState}
use Rattle.sb_shared.proofs.diaries.Promises.{owed_of, owed-arrived}
use Rattle.sb_shared.proofs.diaries.Rooms.{room-set, room-stays, room-reserved, shows-stays, room-is}
use Rattle.sb_shared.proofs.shared_node.SharedNode.arrive.Goals as goal

pub overflow_add-self-inside : goal.overflow_add-self-inside
overflow_add-self-inside c =
    let has_room = room-is c.self.inside.promised c.deref_mut-own.result.now c.self.inside.own.value c.deref_mut-own.ensures.value c.self.invariant in
    omega (arith, has_room.1, has_room.2)

pub invariant_of-self-in_err-number : goal.invariant_of-self-in_err-number
invariant_of-self-in_err-number c =
    let has_room = room-is c.self.inside.promised c.deref_mut-own.result.now c.self.inside.own.value c.deref_mut-own.ensures.value c.self.invariant in
    let own = c.deref_mut-own.result.now in
    let mid : NodeState = record own { diary = c.reserve.new.self } in
    let is : c.reserve.new.self ≡ with_spare (max own.diary.spare (c.self.inside.promised + 3)) own.diary = search rules in
    let room = room-reserved c.self.inside.promised own c.reserve.new.self _ is c.reserve.ensures.most has_room in
    let at = c.requires.lane in
    room-stays c.self.inside.promised c.args.lane at.0 mid c.arrive.new.self (c.in_err-number.ensures.same at.0 (search rules)) room.0

pub returns-in_err-number-clause-same : goal.returns-in_err-number-clause-same
returns-in_err-number-clause-same c =
    let own = c.deref_mut-own.result.now in
    let mid : NodeState = record own { diary = c.reserve.new.self } in
    let is : c.reserve.new.self ≡ with_spare (max own.diary.spare (c.self.inside.promised + 3)) own.diary = search rules in
    let at = c.requires.lane in
    let same = shows-stays c.args.self.now mid c.arrive.new.self (max own.diary.spare (c.self.inside.promised + 3)) c.args.lane at.0 (search rules) (c.in_err-number.ensures.same at.0 (search rules)) in
    search rules

pub invariant_of-self-2 : goal.invariant_of-self-2
invariant_of-self-2 c =
    let has_room = room-is c.self.inside.promised c.deref_mut-own.result.now c.self.inside.own.value c.deref_mut-own.ensures.value c.self.invariant in
    let own = c.deref_mut-own.result.now in
    let mid : NodeState = record own { diary = c.reserve.new.self } in
    let is : c.reserve.new.self ≡ with_spare (max own.diary.spare (c.self.inside.promised + 3)) own.diary = search rules in
    let room = room-reserved c.self.inside.promised own c.reserve.new.self _ is c.reserve.ensures.most has_room in
    let at = c.requires.lane in
    let turn = (c.in_ok-number.ensures.arrives at.0 (search rules)).1 in
    let b : Bundle = record { number = at.0.arrived + 1; epoch = c.args.bundle.epoch; floor = c.args.bundle.floor; records = c.args.bundle.records } in
    let n = ap (λ (l : CoreLane). owed_of l.conts) turn.is ∙ owed-arrived b.epoch b.floor b (conts_of at.0.containers) in
    room-set c.self.inside.promised (c.self.inside.promised + 2) c.args.lane at.0 turn.now _ mid c.arrive.new.self turn.sets room.0 (omega (arith, n)) (omega (arith, room.1))
