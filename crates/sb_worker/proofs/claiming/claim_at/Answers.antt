use Rattle.std.proofs.lemmas.Option.{IfSome_then}
use Rattle.sb_worker.proofs.Claims.{filled-claims, filled-idle, if-none}
use Rattle.sb_worker.proofs.claiming.claim_at.Goals as goal

pub returns-clause-some : goal.returns-clause-some
returns-clause-some g c =
    IfSome_then c.claim.result c.claim.ensures.some (λ claim s. (s.0, s.1, filled-claims c.args.node c.args.pass.now c.fill.new.pass c.claim.new.pass c.requires.pass.1.kept c.fill.result c.fill.ensures.yes c.fill.ensures.no claim s.2))

pub returns-clause-none : goal.returns-clause-none
returns-clause-none g c =
    if-none c.claim.result _ _ (λ s. (s.0, filled-idle c.args.node c.args.pass.now c.fill.new.pass c.claim.new.pass c.requires.pass.1.kept c.fill.result c.fill.ensures.yes c.fill.ensures.no s.1)) c.claim.ensures.none
