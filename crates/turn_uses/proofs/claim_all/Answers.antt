use Rattle.turn_uses.proofs.Keeps.{takes}
use Rattle.turn_uses.proofs.claim_all.Goals as goal

pub claim-requires-clause-rule : goal.claim-requires-clause-rule
claim-requires-clause-rule c = takes _ (Unit {0}) _ _ _
