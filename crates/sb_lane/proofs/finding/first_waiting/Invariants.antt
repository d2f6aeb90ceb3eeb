use Rattle.sb_lane.specs.Finding.{NoneWaitsBefore}
use Rattle.sb_lane.specs.Placed.{conts_of}
use Rattle.sb_lane.proofs.finding.first_waiting.Given as goal

abbrev pub invariant-loop-i : goal.invariant-loop-i
invariant-loop-i l = NoneWaitsBefore l.i (conts_of l.containers)
