use Rattle.std.proofs.Common.{◌≡◌}
use Rattle.sb_turn.specs.Passes.{IsPassOf, IsFree}
use Rattle.turn_tests.proofs.numbers.a_piece_is_claimed_once.Given as goal

abbrev pub invariant-loop-piece : goal.invariant-loop-piece
invariant-loop-piece g l = IsPassOf l.turns l.pass × IsFree l.pass × (l.pass.id ≡ 0) × (l.pass.me.0.count ≡ 0)

abbrev pub invariant-loop-piece-2 : goal.invariant-loop-piece-2
invariant-loop-piece-2 g l = IsPassOf l.turns l.pass × IsFree l.pass × (l.pass.id ≡ 0) × (l.pass.me.0.count ≡ 0)
