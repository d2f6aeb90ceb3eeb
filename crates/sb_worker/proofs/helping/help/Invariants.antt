use Rattle.sb_worker.specs.Entries.{Grows}
use Rattle.sb_worker.specs.Helping.{IsHelper}
use Rattle.sb_worker.proofs.helping.help.Given as goal

abbrev pub invariant-loop : goal.invariant-loop
invariant-loop g l = IsHelper l.cascade l.pass × Grows l.fn.pass l.pass
