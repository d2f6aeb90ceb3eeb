use Rattle.std.proofs.Common.{◌≡◌, ◌≤◌, ◌*◌, ◌-◌, ◌^◌, take, sum_by}
use Rattle.sb_core.specs.containers.Marks.{begun_count}
use Rattle.sb_machine.proofs.marks.begun_in.Given as goal

abbrev pub invariant-loop-lane : goal.invariant-loop-lane
invariant-loop-lane l = record { so_far : l.count ≡ sum_by begun_count (take l.lane-index l.lanes); small : l.count ≤ l.lane-index * (2 ^ 63 - 1) }
