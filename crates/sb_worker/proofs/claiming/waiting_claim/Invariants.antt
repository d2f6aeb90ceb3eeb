use Rattle.std.specs.Prelude.{length}
use Rattle.sb_cascade.specs.Calls.{IsEmptyHanded, IsReady, IsSame, plan_of}
use Rattle.sb_worker.specs.Entries.{Gains, is_idle_of}
use Rattle.sb_worker.proofs.Looping.{HasFrom}
use Rattle.sb_worker.proofs.claiming.waiting_claim.Given as goal

abbrev pub invariant-loop-node : goal.invariant-loop-node
invariant-loop-node g l =
    (IsReady l.cascade l.pass × IsSame l.fn.pass l.pass) × IsEmptyHanded l.pass
    × Gains (HasFrom is_idle_of (length (plan_of l.cascade).steps) l.node) l.fn.pass l.pass
