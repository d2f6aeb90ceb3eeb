use Rattle.std.proofs.Common.{◌≡◌, map}
use Rattle.sb_cascade.specs.Ends.{fresh_state}
use Rattle.sb_cascade.proofs.life.fresh_states.Given as goal

abbrev pub invariant-loop-own : goal.invariant-loop-own
invariant-loop-own l = l.states.items ≡ map fresh_state l.yielded
