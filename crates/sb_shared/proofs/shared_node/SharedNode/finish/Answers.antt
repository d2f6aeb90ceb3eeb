use Rattle.std.proofs.Common.{rules, ◌≡◌, ◌≤◌, subst, arith, sym, ap, ◌∙◌}
use Rattle.sb_shown.specs.core.containers.declared.container.CoreLane.{CoreLane}
use Rattle.sb_shown.specs.lane.LaneView.{lane_of}
use Rattle.sb_shown.specs.lane.Placed.{conts_of}
use Rattle.sb_shown.specs.node.Changes.{HasLane, Turns}
use Rattle.sb_shared.proofs.diaries.Promises.{owed_of, owed-finished, owed-in}
use Rattle.sb_shared.proofs.diaries.Rooms.{HasRoom, room-set, room-is, room-same}
use Rattle.std.specs.Prelude.{◌-◌, slice_get, Some, None}
use Rattle.sb_shown.proofs.core.exact.Nodes.{slice_get-set_same}
use Rattle.sb_shown.specs.diary.declared.event.DiaryEvent.TheVariants as line
use Rattle.sb_shown.specs.lane.Links.{down_of, links_of}
use Rattle.sb_shown.specs.lane.Taking.{finish_first}
use Rattle.sb_shared.specs.SharedNodes.{FinishesLinked, with_link_once}
use Rattle.sb_shared.proofs.links.LinkedOnce.{turns-linked, turns-unlinked}
use Rattle.sb_shared.proofs.shared_node.SharedNode.finish.Goals as goal
use Rattle.sb_shared.proofs.shared_node.SharedNode.finish.Goals.{in-Some+then-is_none, in-Some+else-is_none, in_default}

pub finish-requires-clause-room : goal.finish-requires-clause-room
finish-requires-clause-room c =
    let has_room = room-is c.self.inside.promised c.deref_mut-own.result.now c.self.inside.own.value c.deref_mut-own.ensures.value c.self.invariant in
    let at = c.requires.lane in
    let has : HasLane c.args.lane at.0 c.deref_mut-own.result.now = search rules in
    omega (arith, owed-finished c.args.epoch c.args.number (conts_of at.0.containers) at.2, owed-in c.deref_mut-own.result.now.lanes.items c.args.lane at.0 has, has_room.0, has_room.1)

pub overflow_sub-self : goal.overflow_sub-self
overflow_sub-self c =
    let has_room = room-is c.self.inside.promised c.deref_mut-own.result.now c.self.inside.own.value c.deref_mut-own.ensures.value c.self.invariant in
    let at = c.requires.lane in
    let has : HasLane c.args.lane at.0 c.deref_mut-own.result.now = search rules in
    omega (arith, owed-finished c.args.epoch c.args.number (conts_of at.0.containers) at.2, owed-in c.deref_mut-own.result.now.lanes.items c.args.lane at.0 has, has_room.0)

pub down-requires : goal.down-requires
down-requires c =
    let at = c.requires.lane in
    let own = c.deref_mut-own.result.now in
    let has : HasLane c.args.lane at.0 own = search rules in
    let turn = c.finish.ensures at.0 has in
    let here = ap (λ ls. slice_get ls c.args.lane) turn.sets.lanes ∙ slice_get-set_same own.lanes.items c.args.lane at.0 turn.now has in
    let first : c.args.lane ≡ 0 = search rules in
    (turn.now, subst (λ l. HasLane l turn.now c.finish.new.self) first here)

pub link-requires : goal.link-requires
link-requires c =
    let at = c.requires.lane in
    let own = c.deref_mut-own.result.now in
    let has : HasLane c.args.lane at.0 own = search rules in
    let turn = c.finish.ensures at.0 has in
    let here = ap (λ ls. slice_get ls c.args.lane) turn.sets.lanes ∙ slice_get-set_same own.lanes.items c.args.lane at.0 turn.now has in
    let first : c.args.lane ≡ 0 = search rules in
    (turn.now, subst (λ l. HasLane l turn.now c.finish.new.self) first here)

pub invariant_of-self : goal.invariant_of-self
invariant_of-self c =
    let has_room = room-is c.self.inside.promised c.deref_mut-own.result.now c.self.inside.own.value c.deref_mut-own.ensures.value c.self.invariant in
    let at = c.requires.lane in
    let own = c.deref_mut-own.result.now in
    let p = c.self.inside.promised in
    let has : HasLane c.args.lane at.0 own = search rules in
    let turn = c.finish.ensures at.0 has in
    let e = ap (λ (l : CoreLane). owed_of l.conts) turn.is in
    let n = owed-finished c.args.epoch c.args.number (conts_of at.0.containers) at.2 in
    let some : 1 ≤ p = omega (arith, n, owed-in own.lanes.items c.args.lane at.0 has, has_room.0) in
    let room : HasRoom (p - 1) c.finish.new.self = room-set p (p - 1) c.args.lane at.0 turn.now _ own c.finish.new.self turn.sets has_room (omega (arith, e, n, some)) (omega (arith, some, has_room.1)) in
    elim c.match-link.branch [
      | in-Some+then-is_none w ↦
          let here = ap (λ ls. slice_get ls c.args.lane) turn.sets.lanes ∙ slice_get-set_same own.lanes.items c.args.lane at.0 turn.now has in
          let first : c.args.lane ≡ 0 = search rules in
          let there = subst (λ l. HasLane l turn.now c.finish.new.self) first here in
          let down = w.link.ensures turn.now there in
          subst (λ s. HasRoom s.promised s.own.value) (sym w.self-inside-is) (room-same (p - 1) 0 turn.now down.now c.finish.new.self w.link.new.self there down.lanes down.diary down.is room)
      | in-Some+else-is_none w ↦ subst (λ s. HasRoom s.promised s.own.value) (sym w.self-inside-is) room
      | in_default w ↦ subst (λ s. HasRoom s.promised s.own.value) (sym w.self-inside-is) room
    ]

pub returns : goal.returns
returns c = λ at has0.
    let own = c.deref_mut-own.result.now in
    let has : HasLane c.args.lane at own = search rules in
    let turn = c.finish.ensures at has in
    let here = ap (λ ls. slice_get ls c.args.lane) turn.sets.lanes ∙ slice_get-set_same own.lanes.items c.args.lane at turn.now has in
    let line = line.Finish c.args.lane c.args.number c.args.length in
    let later : CoreLane = record (lane_of at) { conts = finish_first c.args.epoch c.args.number (conts_of at.containers) } in
    elim c.match-link.branch [
      | in-Some+then-is_none w ↦
          let first : c.args.lane ≡ 0 = search rules in
          let there = subst (λ l. HasLane l turn.now c.finish.new.self) first here in
          let none : down_of c.args.epoch (links_of at.containers) ≡ None = sym (ap (down_of c.args.epoch) turn.linked.links) ∙ sym (w.down.ensures turn.now there) ∙ search rules in
          let known : c.args.link ≡ Some w.in-Some.place = search rules in
          let done = turns-linked c.args.lane c.args.epoch at later line own c.finish.new.self turn w.in-Some.place w.link.new.self first none (w.link.ensures turn.now there) in
          let all : Turns c.args.lane at later (FinishesLinked c.args.epoch c.args.link) line own w.link.new.self = subst (λ o. Turns c.args.lane at later (FinishesLinked c.args.epoch o) line own w.link.new.self) (sym known) done in
          record { room = own.diary.spare; own = search rules; tray = search rules; spent = search rules }
      | in-Some+else-is_none w ↦
          let first : c.args.lane ≡ 0 = search rules in
          let there = subst (λ l. HasLane l turn.now c.finish.new.self) first here in
          let is : w.down.result ≡ down_of c.args.epoch (links_of at.containers) = w.down.ensures turn.now there ∙ ap (down_of c.args.epoch) turn.linked.links in
          let same : with_link_once c.args.link c.args.epoch (links_of at.containers) ≡ links_of at.containers = search rules in
          let all = turns-unlinked c.args.lane c.args.epoch at later line own c.finish.new.self turn c.args.link same in
          record { room = own.diary.spare; own = search rules; tray = search rules; spent = search rules }
      | in_default w ↦
          let none : c.args.link ≡ None = search rules in
          let same : with_link_once c.args.link c.args.epoch (links_of at.containers) ≡ links_of at.containers = ap (λ o. with_link_once o c.args.epoch (links_of at.containers)) none in
          let all = turns-unlinked c.args.lane c.args.epoch at later line own c.finish.new.self turn c.args.link same in
          record { room = own.diary.spare; own = search rules; tray = search rules; spent = search rules }
    ]
