use Rattle.std.proofs.Common.{drop}
use Rattle.std.specs.Prelude.{◌↔◌}
use Rattle.sb_live.specs.Rising.{RiseFrom}
use Rattle.sb_live.proofs.rising.rise.Given as goal

abbrev pub invariant-loop-row : goal.invariant-loop-row
invariant-loop-row l = RiseFrom l.last (drop l.row-index l.rows) ↔ RiseFrom 0 l.rows
