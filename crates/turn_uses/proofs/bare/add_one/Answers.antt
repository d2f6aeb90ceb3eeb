use Rattle.turn_uses.specs.Bare.{nothing_fits}
use Rattle.turn_uses.proofs.bare.add_one.Goals as goal

pub claim-requires-clause-rule : goal.claim-requires-clause-rule
claim-requires-clause-rule c k p shelf status states logs views b e at = absurd (nothing_fits shelf k p b e)
