use Rattle.std.proofs.Common.{◌≡◌, ◌+◌, ap, ◌∙◌, arith}
use Rattle.sb_containers.specs.base.bundle.declared.bundle.Bundle.{Bundle}
use Rattle.sb_containers.specs.Lanes.{with_bundle}
use Rattle.sb_lane.specs.Placed.{conts_of}
use Rattle.sb_lane.specs.Unfinished.{unfinished_of}
use Rattle.sb_lane.proofs.Counts.{unfinished-in_epoch, unfinished-bundle}
use Rattle.sb_lane.proofs.lane.Lane.put.Goals as goal

pub invariant_of-self : goal.invariant_of-self
invariant_of-self c =
    let b : Bundle = record { number = c.self.inside.arrived + 1; epoch = c.args.bundle.epoch; floor = c.args.bundle.floor; records = c.args.bundle.records } in
    let n : unfinished_of (conts_of c.put_at.new.containers) ≡ unfinished_of (conts_of c.self.inside.containers) + 1 =
    ap unfinished_of c.in-Ok.ensures.ok.conts ∙ unfinished-in_epoch b.epoch b.floor 1 (with_bundle b) (unfinished-bundle b) (conts_of c.self.inside.containers) in
    (omega (arith, c.self.invariant.0, n), omega (arith, c.self.invariant.1), c.self.invariant.2)
