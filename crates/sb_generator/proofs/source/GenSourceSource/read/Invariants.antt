use Rattle.std.proofs.Common.{◌≡◌, ◌≤◌, ◌-◌, ◌++◌, take, length}
use Rattle.sb_generator.proofs.source.GenSourceSource.read.Given as goal

abbrev pub invariant-records : goal.invariant-records
invariant-records l = (l.initial.self ≡ take l.filled l.buf ++ l.self) × (l.filled ≤ length l.buf)

abbrev pub decreases-records : goal.decreases-records
decreases-records l = length l.initial.buf - l.filled
