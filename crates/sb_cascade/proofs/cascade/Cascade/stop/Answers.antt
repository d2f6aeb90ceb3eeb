use Rattle.std.proofs.Common.{◌≡◌, ap, arith}
use Rattle.sb_shared.specs.turn.Passes.{about}
use Rattle.sb_shared.specs.turn.Reasons.{number_of}
use Rattle.sb_shared.proofs.lives.Shelving.{raises_by}
use Rattle.sb_cascade.proofs.cascade.Cascade.stop.Goals as goal

pub stop-requires-clause-rule : goal.stop-requires-clause-rule
stop-requires-clause-rule c =
    let reason = c.args.reason in
    raises_by (about c.args.self.now.turns) c.args.pass.now.seat.id (number_of reason) c.args.pass.now.seat.me.0.client
    (λ low. (c.requires.feeder (λ want. let three : number_of reason ≡ 3 = ap number_of want in omega (arith, low, three))).0)
