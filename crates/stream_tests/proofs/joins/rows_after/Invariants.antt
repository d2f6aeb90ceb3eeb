use Rattle.std.proofs.Common.{◌≡◌}
use Rattle.sb_join.specs.Kept.{IsSpent}
use Rattle.stream_tests.proofs.joins.rows_after.Given as goal

abbrev pub invariant-loop-step : goal.invariant-loop-step
invariant-loop-step l = (IsSpent l.join → ⊥) × (l.join.closed ≡ l.closed) × (l.join.windows ≡ l.windows)
