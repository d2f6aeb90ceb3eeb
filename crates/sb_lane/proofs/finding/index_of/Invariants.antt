use Rattle.sb_lane.specs.Finding.{LowerBefore}
use Rattle.sb_lane.specs.Placed.{conts_of}
use Rattle.sb_lane.proofs.finding.index_of.Given as goal

abbrev pub invariant-loop-i : goal.invariant-loop-i
invariant-loop-i l = LowerBefore l.epoch l.i (conts_of l.containers)
