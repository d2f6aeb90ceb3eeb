use Rattle.std.proofs.Common.{◌≡◌, ◌≤◌, ◌-◌, drop, length}
use Rattle.sb_checkpoint.specs.LaterRows.{from_first}
use Rattle.sb_checkpoint.proofs.rows_from.earlier_front.Given as goal

abbrev pub invariant-rows : goal.invariant-rows
invariant-rows l = record {
  within : l.count ≤ length l.rows;
  left : from_first l.low (drop l.count l.rows) ≡ from_first l.low l.rows;
}

abbrev pub decreases-rows : goal.decreases-rows
decreases-rows l = length l.rows - l.count
