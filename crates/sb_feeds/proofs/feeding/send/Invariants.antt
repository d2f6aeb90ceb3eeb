use Rattle.std.proofs.Common.{◌≡◌}
use Rattle.rtrb.specs.Ring.{SameProducer, sent}
use Rattle.sb_feeds.proofs.feeding.send.Given as goal

abbrev pub invariant-loop : goal.invariant-loop
invariant-loop g l = SameProducer l.initial.producer l.producer × (sent l.producer ≡ sent l.initial.producer) × (l.next ≡ l.initial.next)
