use Rattle.std.proofs.lemmas.Option.{IfSome_then}
use Rattle.sb_worker.proofs.Claims.{claimed-gains, if-none, unclaimed-gains}
use Rattle.sb_worker.proofs.claiming.shelved_claim.Goals as goal

pub returns-clause-some : goal.returns-clause-some
returns-clause-some c =
    IfSome_then c.claim.result c.claim.ensures.some (λ claim s. (s.0, s.1, claimed-gains c.args.pass.now c.claim.new.pass claim c.requires.pass.1.kept s.2))

pub returns-clause-none : goal.returns-clause-none
returns-clause-none c =
    if-none c.claim.result _ _ (λ s. (s.0, unclaimed-gains c.args.pass.now c.claim.new.pass s.1)) c.claim.ensures.none
