use Rattle.std.proofs.Common.{◌≡◌}
use Rattle.rtrb.specs.Ring.{SameProducer, sent}
use Rattle.sb_feeds.proofs.rows.sending.send.Given as goal

abbrev pub invariant-loop : goal.invariant-loop
invariant-loop g l = record {
  ring : SameProducer l.initial.producer l.producer;
  sent : sent l.producer ≡ sent l.initial.producer;
  next : l.next ≡ l.initial.next;
}
