use Rattle.std.proofs.Common.{◌≡◌, map, take}
use Rattle.sb_base.specs.windowed.Sessions.{session_end}
use Rattle.sb_slow.proofs.sessions.session_ends.Given as goal

abbrev pub invariant-loop-record : goal.invariant-loop-record
invariant-loop-record l = l.ends.items ≡ map (session_end l.gap l.records) (take l.record-index l.records)
