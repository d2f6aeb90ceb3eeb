use Rattle.std.proofs.Common.{rules, ◌≡◌, ◌≤◌, subst, arith, ap, ◌∙◌, sym}
use Rattle.sb_shown.specs.lane.Placed.{conts_of}
use Rattle.sb_shown.specs.node.Changes.{HasLane}
use Rattle.sb_shared.proofs.diaries.Promises.{owed-taken, owed-waits, owed-in}
use Rattle.sb_shared.proofs.diaries.Rooms.{room-set, HasRoom, room-is}
use Rattle.std.specs.Prelude.{◌-◌, slice_get}
use Rattle.sb_shown.proofs.core.exact.Nodes.{slice_get-set_same}
use Rattle.sb_shown.specs.lane.Links.{down_of, links_of}
use Rattle.sb_shared.proofs.shared_node.SharedNode.take.Goals as goal
use Rattle.sb_shared.proofs.shared_node.SharedNode.take.Goals.{then-lane-eq0, else-lane-eq0}

pub take-bundle-requires-clause-room : goal.take-bundle-requires-clause-room
take-bundle-requires-clause-room c =
    let has_room = room-is c.self.inside.promised c.deref_mut-own.result.now c.self.inside.own.value c.deref_mut-own.ensures.value c.self.invariant in
    let at = c.in_ok-lane.ensures.some in
    omega (arith, owed-waits (conts_of at.0.containers) at.2, owed-in c.deref_mut-own.result.now.lanes.items c.in_ok-lane.lane at.0 at.1, has_room.0, has_room.1)

pub overflow_sub-self : goal.overflow_sub-self
overflow_sub-self c =
    let has_room = room-is c.self.inside.promised c.deref_mut-own.result.now c.self.inside.own.value c.deref_mut-own.ensures.value c.self.invariant in
    let at = c.in_ok-lane.ensures.some in
    omega (arith, owed-waits (conts_of at.0.containers) at.2, owed-in c.deref_mut-own.result.now.lanes.items c.in_ok-lane.lane at.0 at.1, has_room.0)

pub down-link-requires : goal.down-link-requires
down-link-requires c =
    let at = c.in_ok-lane.ensures.some in
    let turn = c.take-bundle.ensures at.0 at.1 in
    let here : HasLane c.in_ok-lane.lane turn.now c.take-bundle.new.self = ap (λ ls. slice_get ls c.in_ok-lane.lane) turn.sets.lanes ∙ slice_get-set_same c.deref_mut-own.result.now.lanes.items c.in_ok-lane.lane at.0 turn.now at.1 in
    (turn.now, subst (λ l. HasLane l turn.now c.take-bundle.new.self) (search rules) here)

pub invariant_of-self : goal.invariant_of-self
invariant_of-self c =
    let has_room = room-is c.self.inside.promised c.deref_mut-own.result.now c.self.inside.own.value c.deref_mut-own.ensures.value c.self.invariant in
    search rules

pub invariant_of-self-2 : goal.invariant_of-self-2
invariant_of-self-2 c =
    let has_room = room-is c.self.inside.promised c.deref_mut-own.result.now c.self.inside.own.value c.deref_mut-own.ensures.value c.self.invariant in
    let at = c.in_ok-lane.ensures.some in
    let own = c.deref_mut-own.result.now in
    let p = c.self.inside.promised in
    let turn = c.take-bundle.ensures at.0 at.1 in
    let n = owed-taken (conts_of at.0.containers) (conts_of turn.now.containers) c.take-bundle.result turn.took in
    let some : 1 ≤ p = omega (arith, n, owed-in own.lanes.items c.in_ok-lane.lane at.0 at.1, has_room.0) in
    let room : HasRoom (p - 1) c.take-bundle.new.self = room-set p (p - 1) c.in_ok-lane.lane at.0 turn.now _ own c.take-bundle.new.self turn.sets has_room (omega (arith, n, some)) (omega (arith, some, has_room.1)) in
    elim c.if-lane-eq0.branch [
      | then-lane-eq0 w ↦ subst (λ s. HasRoom s.promised s.own.value) (sym w.self-inside-is) room
      | else-lane-eq0 w ↦ subst (λ s. HasRoom s.promised s.own.value) (sym w.self-inside-is) room
    ]

pub returns-clause-some : goal.returns-clause-some
returns-clause-some c =
    let at = c.in_ok-lane.ensures.some in
    let turn = c.take-bundle.ensures at.0 at.1 in
    let here : HasLane c.in_ok-lane.lane turn.now c.take-bundle.new.self = ap (λ ls. slice_get ls c.in_ok-lane.lane) turn.sets.lanes ∙ slice_get-set_same c.deref_mut-own.result.now.lanes.items c.in_ok-lane.lane at.0 turn.now at.1 in
    let link : c.in_ok-lane.lane ≡ 0 → c.if-lane-eq0.link ≡ down_of c.take-bundle.result.epoch (links_of at.0.containers) = λ first. elim c.if-lane-eq0.branch [
      | then-lane-eq0 w ↦ w.link-is ∙ w.down-link.ensures turn.now (subst (λ l. HasLane l turn.now c.take-bundle.new.self) first here) ∙ ap (down_of c.take-bundle.result.epoch) turn.linked.links
      | else-lane-eq0 w ↦ search rules
    ] in
    (at.0, search rules, record { room = c.deref_mut-own.result.now.diary.spare; own = search rules; tray = search rules; spent = search rules }, link)
