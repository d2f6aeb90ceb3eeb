use Rattle.sb_cascade.specs.Calls.{IsEmptyHanded, IsReady, IsSame}
use Rattle.sb_worker.specs.Entries.{Grows}
use Rattle.sb_worker.proofs.settling.work_waiting.Given as goal

abbrev pub invariant-loop : goal.invariant-loop
invariant-loop g l = (IsReady l.cascade l.pass × IsSame l.fn.pass l.pass) × IsEmptyHanded l.pass × Grows l.fn.pass l.pass
