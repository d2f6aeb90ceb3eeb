use Rattle.std.proofs.Common.{ℕ, ◌<◌, ◌-◌, ◌^◌, sym, subst, ◌∙◌, arith}
use Rattle.sb_lane.specs.containers.LaneOrder.{IsLane}
use Rattle.sb_lane.specs.containers.declared.container.CoreLane.{CoreLane}
use Rattle.sb_lane.specs.LaneView.{lane_of}
use Rattle.sb_node.proofs.PlacedFirst.{arrives-placed}
use Rattle.sb_node.proofs.arriving.deliver_first.Goals as goal

pub returns-clause-ok : goal.returns-clause-ok
returns-clause-ok c =
    let room : c.args.lane.now.arrived < 2 ^ 64 - 1 = omega (arith, c.if-arrived_count-eq18446744073709551615.false, c.arrived_count.ensures) in
    let order = subst (λ (l : CoreLane). (bound : ℕ) × IsLane bound l) (sym c.in_ok-place.ensures.ok.lane) (c.requires room) in
    (c.in-Ok.ensures.ok order.0 order.1).lane
    ∙ arrives-placed c.args.bundle.epoch c.args.bundle.floor c.args.bundle.records (lane_of c.args.lane.now) (lane_of c.place.new.self) c.in_ok-place.ensures.ok.lane
