use Rattle.std.proofs.Common.{◌≡◌, take}
use Rattle.std.specs.List.{flat_map}
use Rattle.sb_runs.specs.Placed.{placed_first}
use Rattle.sb_join.proofs.part.join_part_of.Given as goal

abbrev pub invariant-loop-record : goal.invariant-loop-record
invariant-loop-record l = record {
  placed : l.placed.items ≡ flat_map (placed_first l.windows) (take l.record-index l.records);
  came : l.came ≡ take l.record-index l.records;
}
