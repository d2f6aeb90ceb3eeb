use Rattle.std.proofs.Common.{◌≡◌, ◌-◌, [], false, length}
use Rattle.std.specs.Prelude.{◌≢◌}
use Rattle.sb_outside.specs.Buffers.{pending_bytes}
use Rattle.sb_outside.specs.Lines.{lines}
use Rattle.sb_outside.specs.Searches.{Gives}
use Rattle.sb_outside.proofs.search.search.Given as goal

abbrev pub invariant-reads : goal.invariant-reads
invariant-reads g l =
    Gives (g.S.Source.left l.initial.source) (g.S.Source.left l.source) (pending_bytes l.initial.buffer) (pending_bytes l.buffer)
    × (g.S.Source.faults l.source ≡ g.S.Source.faults l.initial.source)
    × (g.S.Source.name l.source ≡ g.S.Source.name l.initial.source)
    × (lines false (pending_bytes l.initial.buffer) ≢ [] → (l.source ≡ l.initial.source) × (pending_bytes l.buffer ≡ pending_bytes l.initial.buffer))

abbrev pub decreases-reads : goal.decreases-reads
decreases-reads g l = 130 - length (pending_bytes l.buffer)
