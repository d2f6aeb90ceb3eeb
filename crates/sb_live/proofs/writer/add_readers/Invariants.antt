use Rattle.std.proofs.Common.{◌≡◌, All, length}
use Rattle.sb_live.proofs.writer.add_readers.Given as goal

abbrev pub invariant-loop : goal.invariant-loop
invariant-loop g l = (l.out ≡ l.initial.out) × (length l.readers.items ≡ l.counter) × All (λ r. r ≡ l.initial.out.changes) l.readers.items
