use Rattle.std.proofs.Common.{sym, subst}
use Rattle.sb_runs.specs.Runs.{IsRun}
use Rattle.sb_runs.proofs.Found.{run-none}
use Rattle.sb_runs.proofs.run.Run.new.Goals as goal

pub invariant_of-result : goal.invariant_of-result
invariant_of-result g c = subst (λ es. IsRun {V = g.row.J-Value.Denot} es) (sym c.new.ensures) run-none
