use Rattle.std.proofs.Common.{◌≡◌, map, take}
use Rattle.sb_slow.specs.SessionEnds as spec
use Rattle.sb_slow.proofs.sessions.times_of.Given as goal

abbrev pub invariant-loop-record : goal.invariant-loop-record
invariant-loop-record l = l.times.items ≡ map spec.time_of (take l.record-index l.records)
