use Rattle.std.proofs.Common.{◌≡◌, ◌++◌}
use Rattle.sb_slow.specs.Sendings.{records_to, sent_elsewhere}
use Rattle.sb_slow.proofs.sent.take_sent.Given as goal

abbrev pub invariant-loop-list : goal.invariant-loop-list
invariant-loop-list l =
    record {
      records : l.records.items ++ records_to l.node l.lane l.list-iterator.rest.items ≡ records_to l.node l.lane l.fn.sent.items;
      others : l.others.items ++ sent_elsewhere l.node l.lane l.list-iterator.rest.items ≡ sent_elsewhere l.node l.lane l.fn.sent.items;
    }
