use Rattle.std.proofs.Common.{rules, ◌+◌, inl, inr, subst, max, arith, sym, ap, ◌∙◌}
use Rattle.sb_shown.specs.base.bundle.declared.bundle.Bundle.{Bundle}
use Rattle.sb_shown.specs.core.containers.declared.container.CoreLane.{CoreLane}
use Rattle.sb_shown.specs.lane.LaneView.{lane_of}
use Rattle.sb_shown.specs.lane.Placed.{conts_of}
use Rattle.sb_shown.specs.node.Changes.{HasLane}
use Rattle.sb_shown.specs.node.declared.state.NodeState.{NodeState}
use Rattle.sb_shared.proofs.diaries.Promises.{owed_of, owed-arrived}
use Rattle.sb_shared.proofs.diaries.Rooms.{HasRoom, room-set, room-stays, room-reserved, shows-stays, room-is}
use Rattle.sb_shown.specs.lane.Changes.{StandsAt}
use Rattle.std.specs.Prelude.{length}
use Rattle.sb_shown.specs.diary.declared.event.DiaryEvent.TheVariants as line
use Rattle.sb_shown.specs.core.containers.Lanes.{with_arrival}
use Rattle.sb_shown.specs.lane.Links.{link_in}
use Rattle.sb_shown.specs.node.LinkChanges.{FindsPlace, LinksStay}
use Rattle.sb_shared.specs.SharedNodes.{PutsAt}
use Rattle.sb_shared.proofs.links.LinkedOnce.{turns-as}
use Rattle.sb_shared.proofs.shared_node.SharedNode.put.Goals as goal
use Rattle.sb_shared.proofs.shared_node.SharedNode.put.Goals.{in-Some+in_ok-put_at-in-Some, in-None+in_ok-place-in-None}

pub overflow_add-self-inside : goal.overflow_add-self-inside
overflow_add-self-inside c =
    let has_room = room-is c.self.inside.promised c.deref_mut-own.result.now c.self.inside.own.value c.deref_mut-own.ensures.value c.self.invariant in
    omega (arith, has_room.1, has_room.2)

pub invariant_of-self-in_err-put_at-in-Some : goal.invariant_of-self-in_err-put_at-in-Some
invariant_of-self-in_err-put_at-in-Some c =
    let has_room = room-is c.self.inside.promised c.deref_mut-own.result.now c.self.inside.own.value c.deref_mut-own.ensures.value c.self.invariant in
    let own = c.deref_mut-own.result.now in
    let p = c.self.inside.promised in
    let mid : NodeState = record own { diary = c.reserve.new.self } in
    let room = room-reserved p own c.reserve.new.self _ c.in_ok-reserve.ensures.ok c.reserve.ensures.most has_room in
    let at = c.requires.lane in
    room-stays p c.args.lane at.0 mid c.put_at.new.self (c.in_err-put_at-in-Some.ensures.same at.0 (search rules)) room.0

pub returns-in_err-put_at-in-Some-clause-same : goal.returns-in_err-put_at-in-Some-clause-same
returns-in_err-put_at-in-Some-clause-same c =
    let own = c.deref_mut-own.result.now in
    let p = c.self.inside.promised in
    let mid : NodeState = record own { diary = c.reserve.new.self } in
    let at = c.requires.lane in
    let same = shows-stays c.args.self.now mid c.put_at.new.self (max own.diary.spare (p + 3)) c.args.lane at.0 (search rules) (c.in_err-put_at-in-Some.ensures.same at.0 (search rules)) in
    search rules

pub invariant_of-self-in_err-place-in-None : goal.invariant_of-self-in_err-place-in-None
invariant_of-self-in_err-place-in-None c =
    let has_room = room-is c.self.inside.promised c.deref_mut-own.result.now c.self.inside.own.value c.deref_mut-own.ensures.value c.self.invariant in
    let own = c.deref_mut-own.result.now in
    let p = c.self.inside.promised in
    let mid : NodeState = record own { diary = c.reserve.new.self } in
    let room = room-reserved p own c.reserve.new.self _ c.in_ok-reserve.ensures.ok c.reserve.ensures.most has_room in
    let at = c.requires.lane in
    room-stays p c.args.lane at.0 mid c.put_first.new.self (c.in_err-place-in-None.ensures.same at.0 (search rules)) room.0

pub returns-in_err-place-in-None-clause-same : goal.returns-in_err-place-in-None-clause-same
returns-in_err-place-in-None-clause-same c =
    let own = c.deref_mut-own.result.now in
    let p = c.self.inside.promised in
    let mid : NodeState = record own { diary = c.reserve.new.self } in
    let at = c.requires.lane in
    let same = shows-stays c.args.self.now mid c.put_first.new.self (max own.diary.spare (p + 3)) c.args.lane at.0 (search rules) (c.in_err-place-in-None.ensures.same at.0 (search rules)) in
    search rules

pub invariant_of-self-2 : goal.invariant_of-self-2
invariant_of-self-2 c =
    let has_room = room-is c.self.inside.promised c.deref_mut-own.result.now c.self.inside.own.value c.deref_mut-own.ensures.value c.self.invariant in
    let own = c.deref_mut-own.result.now in
    let p = c.self.inside.promised in
    let mid : NodeState = record own { diary = c.reserve.new.self } in
    let room = room-reserved p own c.reserve.new.self _ c.in_ok-reserve.ensures.ok c.reserve.ensures.most has_room in
    let at = c.requires.lane in
    let has : HasLane c.args.lane at.0 mid = search rules in
    let b : Bundle = record { number = at.0.arrived + 1; epoch = c.args.bundle.epoch; floor = c.args.bundle.floor; records = c.args.bundle.records } in
    elim c.match-link.branch [
      | in-Some+in_ok-put_at-in-Some w ↦
          let turn = (w.in_ok-put_at-in-Some.ensures.puts at.0 has).1 in
          let n = ap (λ (l : CoreLane). owed_of l.conts) turn.is ∙ owed-arrived b.epoch b.floor b (conts_of at.0.containers) in
          subst (λ s. HasRoom (s.promised + 2) s.own.value) (sym w.self-inside-is) (room-set p (p + 2) c.args.lane at.0 turn.now _ mid w.put_at.new.self turn.sets room.0 (omega (arith, n)) (omega (arith, room.1)))
      | in-None+in_ok-place-in-None w ↦
          let turn = (w.in_ok-place-in-None.ensures.puts at.0 has).1 in
          let n = ap (λ (l : CoreLane). owed_of l.conts) turn.is ∙ owed-arrived b.epoch b.floor b (conts_of at.0.containers) in
          subst (λ s. HasRoom (s.promised + 2) s.own.value) (sym w.self-inside-is) (room-set p (p + 2) c.args.lane at.0 turn.now _ mid w.put_first.new.self turn.sets room.0 (omega (arith, n)) (omega (arith, room.1)))
    ]

pub returns-clause-puts : goal.returns-clause-puts
returns-clause-puts c = λ at has0.
    let own = c.deref_mut-own.result.now in
    let p = c.self.inside.promised in
    let mid : NodeState = record own { diary = c.reserve.new.self } in
    let has : HasLane c.args.lane at mid = search rules in
    let epoch = c.args.bundle.epoch in
    let later : CoreLane = with_arrival epoch c.args.bundle.floor c.args.bundle.records (lane_of at) in
    let line = line.Arrive c.args.lane epoch (at.arrived + 1) (length c.args.bundle.records) in
    elim c.match-link.branch [
      | in-Some+in_ok-put_at-in-Some w ↦
          let put = w.in_ok-put_at-in-Some.ensures.puts at has in
          let was : StandsAt epoch w.in-Some.place at.containers = search rules in
          let stands : StandsAt epoch w.in-Some.place put.1.now.containers = record { link = was.link; there = ap (link_in epoch) put.1.linked.links ∙ was.there; place_is = was.place_is } in
          let puts : PutsAt epoch c.match-link.place at put.1.now = subst (λ q. PutsAt epoch q at put.1.now) (sym w.place-is) (record { links = inl put.1.linked.links; stands = stands }) in
          let turn = turns-as c.args.lane at later LinksStay (PutsAt epoch c.match-link.place) line mid w.put_at.new.self put.1 puts in
          (search rules, record { room = max own.diary.spare (p + 3); own = search rules; tray = search rules; spent = search rules })
      | in-None+in_ok-place-in-None w ↦
          let put = w.in_ok-place-in-None.ensures.puts at has in
          let puts : PutsAt epoch c.match-link.place at put.1.now = subst (λ q. PutsAt epoch q at put.1.now) (sym w.place-is) (record { links = inr (put.1.linked.made, put.1.linked.links); stands = put.1.linked.stands }) in
          let turn = turns-as c.args.lane at later (FindsPlace epoch w.in_ok-place-in-None.place) (PutsAt epoch c.match-link.place) line mid w.put_first.new.self put.1 puts in
          (search rules, record { room = max own.diary.spare (p + 3); own = search rules; tray = search rules; spent = search rules })
    ]
