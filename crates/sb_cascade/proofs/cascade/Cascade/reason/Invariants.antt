use Rattle.sb_shared.specs.turn.Passes.{about}
use Rattle.sb_shared.specs.Found.{IsShown}
use Rattle.sb_cascade.proofs.cascade.Cascade.reason.Given as goal

abbrev pub ghosts-reason_as : goal.ghosts-reason_as
ghosts-reason_as a = record { fact = IsShown (about a.self.now) }
