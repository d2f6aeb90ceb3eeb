use Rattle.sb_slow.proofs.Walking.{IsWalked}
use Rattle.sb_slow.proofs.sessions.ends_by_time.Given as goal

abbrev pub invariant-loop-at : goal.invariant-loop-at
invariant-loop-at l = IsWalked l.gap l.records l.at-iterator.rest.items l.later l.ends
