use Rattle.std.proofs.Common.{length}
use Rattle.sb_runs.proofs.Splitting.{Splitting}
use Rattle.sb_runs.proofs.run.Run.split_at.Given as goal

abbrev pub invariant-entries : goal.invariant-entries
invariant-entries g l = Splitting l.mark l.initial.open l.closed l.open

abbrev pub decreases-entries : goal.decreases-entries
decreases-entries g l = length l.open
