use Rattle.sb_lane.specs.Finding.{OthersBefore}
use Rattle.sb_lane.specs.Placed.{conts_of}
use Rattle.sb_lane.proofs.finding.epoch_at.Given as goal

abbrev pub invariant-loop-i : goal.invariant-loop-i
invariant-loop-i l = OthersBefore l.epoch l.i (conts_of l.containers)
