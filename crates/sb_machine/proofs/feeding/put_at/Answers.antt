use Rattle.std.proofs.Common.{◌≡◌, ◌<◌, ◌-◌, ◌^◌, ◌∙◌, ap, sym, subst}
use Rattle.sb_core.specs.containers.declared.container.CoreLane.{CoreLane}
use Rattle.sb_core.specs.containers.Lanes.{with_arrival}
use Rattle.sb_core.specs.Moments.{with_lane}
use Rattle.sb_core.proofs.places.InPlace.{arrived-there, lane-is, lane-kept, lane-written}
use Rattle.sb_machine.proofs.Becoming.{becomes-memory}
use Rattle.sb_machine.proofs.feeding.put_at.Goals as goal

pub put-requires : goal.put-requires
put-requires c =
    let reads : c.index_mut-lane.result.now ≡ c.in-Some.lane.now = lane-is c.args.moment.now c.args.place c.in-Some.ensures.some c.nodes.view_is c.index_mut.ensures.value c.lanes.view_is c.index_mut-lane.ensures.value in
    subst (λ (l : CoreLane). l.arrived < 2 ^ 64 - 1) (sym reads) c.if-lane-ge18446744073709551615.false

pub returns-in_err-put : goal.returns-in_err-put
returns-in_err-put c =
    let same = lane-kept c.args.moment.now c.args.place c.in-Some.ensures.some c.nodes.view_is c.index_mut.ensures.value c.lanes.view_is c.index_mut-lane.ensures.value c.put.new.lane c.in_err-put.ensures.err in
    becomes-memory _ _ _ c.from_residual.result c.from_residual.ensures.0 c.from_residual.ensures.1 same

pub returns : goal.returns
returns c =
    let reads : c.index_mut-lane.result.now ≡ c.in-Some.lane.now = lane-is c.args.moment.now c.args.place c.in-Some.ensures.some c.nodes.view_is c.index_mut.ensures.value c.lanes.view_is c.index_mut-lane.ensures.value in
    let writes = lane-written c.args.moment.now c.args.place c.in-Some.ensures.some c.nodes.view_is c.index_mut.ensures.value c.lanes.view_is c.index_mut-lane.ensures.value c.put.new.lane in
    let lane : c.put.new.lane ≡ with_arrival c.args.epoch c.args.floor c.args.records c.in-Some.lane.now = c.in_ok-put.ensures.ok ∙ ap (with_arrival c.args.epoch c.args.floor c.args.records) reads in
    arrived-there c.args.moment.now c.args.place c.args.epoch c.args.floor c.args.records c.in-Some.lane.now c.in-Some.ensures.some c.if-lane-ge18446744073709551615.false
    ∙ ap (λ l. with_lane c.args.place l c.args.moment.now) (sym lane) ∙ writes
