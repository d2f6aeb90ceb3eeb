use Rattle.std.proofs.Common.{◌≡◌, ◌∙◌, ap, sym}
use Rattle.sb_core.specs.containers.Lanes.{with_seal}
use Rattle.sb_core.specs.Moments.{with_lane}
use Rattle.sb_machine.proofs.Becoming.{becomes-memory}
use Rattle.sb_core.proofs.places.InPlace.{then_some, lane-is, lane-kept, lane-written}
use Rattle.sb_machine.proofs.feeding.seal_at.Goals as goal

pub returns-in_err-seal : goal.returns-in_err-seal
returns-in_err-seal c =
    let same = lane-kept c.args.moment.now c.args.place c.in-Some.ensures.some c.nodes.view_is c.index_mut.ensures.value c.lanes.view_is c.index_mut-lane.ensures.value c.seal.new.lane c.in_err-seal.ensures.err in
    becomes-memory _ _ _ c.from_residual.result c.from_residual.ensures.0 c.from_residual.ensures.1 same

pub returns : goal.returns
returns c =
    let reads : c.index_mut-lane.result.now ≡ c.in-Some.field-0.now = lane-is c.args.moment.now c.args.place c.in-Some.ensures.some c.nodes.view_is c.index_mut.ensures.value c.lanes.view_is c.index_mut-lane.ensures.value in
    let writes = lane-written c.args.moment.now c.args.place c.in-Some.ensures.some c.nodes.view_is c.index_mut.ensures.value c.lanes.view_is c.index_mut-lane.ensures.value c.seal.new.lane in
    let lane : c.seal.new.lane ≡ with_seal c.args.mark c.in-Some.field-0.now = c.in_ok-seal.ensures.ok ∙ ap (with_seal c.args.mark) reads in
    then_some _ _ _ c.in-Some.ensures.some
    ∙ ap (λ l. with_lane c.args.place l c.args.moment.now) (sym lane) ∙ writes
