use Rattle.std.proofs.Common.{◌≡◌, ◌++◌}
use Rattle.std.specs.Vec.Iter.{into_iter_items}
use Rattle.sb_window.specs.records.Records.{before, at_least}
use Rattle.sb_window.specs.records.Reorderings.{IsReordered}
use Rattle.sb_sink.specs.Runs.{records_in}
use Rattle.sb_sink.proofs.sink.take_below.Given as goal

abbrev pub invariant-loop-run : goal.invariant-loop-run
invariant-loop-run l = record {
  below : IsReordered (records_in l.closed.items ++ before l.mark (records_in (into_iter_items l.run-iterator))) (before l.mark (records_in l.fn.runs.items));
  rest : records_in l.runs.items ++ at_least l.mark (records_in (into_iter_items l.run-iterator)) ≡ at_least l.mark (records_in l.fn.runs.items);
}
