use Rattle.std.proofs.Common.{rules, ◌≡◌, subst}
use Rattle.sb_shared.specs.turn.Passes.{about}
use Rattle.sb_shared.specs.declared.telling.Setting.{Setting}
use Rattle.sb_shared.specs.Found.{IsShown}
use Rattle.sb_shared.proofs.lives.HeldOnce.{shows}
use Rattle.sb_cascade.proofs.cascade.Cascade.reason.Goals as goal

pub reason_as-requires-clause-rule : goal.reason_as-requires-clause-rule
reason_as-requires-clause-rule c = shows (about c.args.self.now.turns) c.args.pass.now.seat.id c.args.pass.now.seat.me.0.client

pub returns-clause-shown : goal.returns-clause-shown
returns-clause-shown c =
    let same : about c.args.self.now.turns ≡ c.args.self.now.setting = search rules in
    subst (λ (a : Setting). IsShown a c.args.pass.now.seat.me.0.client) same c.reason_as.ensures.fact
