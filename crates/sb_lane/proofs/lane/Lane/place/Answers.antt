use Rattle.std.proofs.Common.{◌≡◌, ◌+◌, ap, ◌∙◌, arith}
use Rattle.sb_containers.specs.declared.container.Cont.{Cont}
use Rattle.sb_lane.specs.Placed.{conts_of}
use Rattle.sb_lane.specs.Unfinished.{unfinished_of}
use Rattle.sb_lane.proofs.Counts.{unfinished-in_epoch}
use Rattle.sb_lane.proofs.lane.Lane.place.Goals as goal

pub invariant_of-self : goal.invariant_of-self
invariant_of-self c =
    let n : unfinished_of (conts_of c.place_at.new.containers) ≡ unfinished_of (conts_of c.self.inside.containers) + 0 =
    ap unfinished_of c.in-Ok.ensures.ok.conts ∙ unfinished-in_epoch c.args.epoch c.args.floor 0 (λ (x : Cont). x) (λ x. omega arith) (conts_of c.self.inside.containers) in
    (omega (arith, c.self.invariant.0, n), c.self.invariant.1, c.self.invariant.2)
