use Rattle.std.proofs.Common.{◌≡◌}
use Rattle.sb_turn.specs.Passes.{IsFree}
use Rattle.turn_tests.proofs.crowd.put_away.Given as goal

abbrev pub invariant-loop : goal.invariant-loop
invariant-loop g l = (l.pass.table_id ≡ l.initial.pass.table_id) × (l.pass.id ≡ l.initial.pass.id) × IsFree l.pass
