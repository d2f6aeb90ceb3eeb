use Rattle.std.proofs.Common.{◌≡◌, true}
use Rattle.sb_turn.specs.Passes.{IsPassOf}
use Rattle.turn_tests.proofs.numbers.the_state_word_never_falls.Given as goal

abbrev pub invariant-loop-raised : goal.invariant-loop-raised
invariant-loop-raised g l = (IsPassOf l.turns l.first × (l.first.me.0.active ≡ true)) × (IsPassOf l.turns l.second × (l.second.me.0.active ≡ true))
