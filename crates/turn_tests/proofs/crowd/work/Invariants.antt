use Rattle.std.proofs.Common.{◌≡◌}
use Rattle.sb_turn.specs.Passes.{IsFree}
use Rattle.turn_tests.proofs.crowd.work.Given as goal

abbrev pub invariant-loop-round : goal.invariant-loop-round
invariant-loop-round g l = (l.pass.table_id ≡ l.initial.pass.table_id) × (l.pass.id ≡ l.initial.pass.id) × IsFree l.pass
