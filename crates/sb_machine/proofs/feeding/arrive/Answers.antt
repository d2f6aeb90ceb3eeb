use Rattle.std.proofs.Common.{◌∙◌, sym, refl}
use Rattle.sb_machine.proofs.Arriving.{arrive-empty, arrive-many, arrive-late, arrive-timely}
use Rattle.sb_machine.proofs.Becoming.{becomes-as}
use Rattle.sb_machine.proofs.feeding.arrive.Goals.{then-is_empty-via-then-is_empty, then-is_empty-via-else-is_empty+then-list-moment, then-is_empty-via-else-is_empty+else-list-moment+then-not-are_timely}
use Rattle.sb_machine.proofs.feeding.arrive.Goals as goal

pub returns-then-is_empty : goal.returns-then-is_empty
returns-then-is_empty c =
    let list = c.as_slice-list.result.now in
    elim c.then-is_empty.branch [
      | then-is_empty-via-then-is_empty w ↦ (
        arrive-empty c.args.plan.now c.args.moment.now c.args.stream c.args.records list c.in-Some.place c.in-Some-lane_of.lane.now c.next_epoch-epoch.result c.next_floor-floor.result
            c.in-Some.ensures.value c.in-Some-lane_of.ensures.some c.next_epoch-epoch.ensures c.next_floor-floor.ensures c.as_slice-list.ensures (sym w.if-is_empty.true ∙ c.is_empty.ensures),
        refl,
      )
      | then-is_empty-via-else-is_empty+then-list-moment w ↦ (
        arrive-many c.args.plan.now c.args.moment.now c.args.stream c.args.records list c.in-Some.place c.in-Some-lane_of.lane.now c.next_epoch-epoch.result c.next_floor-floor.result
            c.in-Some.ensures.value c.in-Some-lane_of.ensures.some c.next_epoch-epoch.ensures c.next_floor-floor.ensures c.as_slice-list.ensures w.if-list-moment.true,
        refl,
      )
      | then-is_empty-via-else-is_empty+else-list-moment+then-not-are_timely w ↦ (
        arrive-late c.args.plan.now c.args.moment.now c.args.stream c.args.records list c.in-Some.place c.in-Some-lane_of.lane.now c.next_epoch-epoch.result c.next_floor-floor.result
            c.in-Some.ensures.value c.in-Some-lane_of.ensures.some c.next_epoch-epoch.ensures c.next_floor-floor.ensures c.as_slice-list.ensures (sym w.if-not-are_timely.true ∙ w.are_timely.ensures),
        refl,
      )
    ]

pub returns : goal.returns
returns c =
    becomes-as _ _ _ _ c.put_at.result
    (arrive-timely c.args.plan.now c.args.moment.now c.args.stream c.args.records c.as_slice-list.result.now c.in-Some.place c.in-Some-lane_of.lane.now c.next_epoch-epoch.result c.next_floor-floor.result
    c.in-Some.ensures.value c.in-Some-lane_of.ensures.some c.next_epoch-epoch.ensures c.next_floor-floor.ensures c.as_slice-list.ensures
    c.if-is_empty.ensures c.if-list-moment.false c.if-not-are_timely.ensures)
    c.put_at.ensures
