use Rattle.std.proofs.Common.{◌++◌, length}
use Rattle.sb_window.specs.records.Reorderings.{IsReordered}
use Rattle.sb_sink.specs.Runs.{records_in}
use Rattle.sb_sink.proofs.sink.into_one.Given as goal

abbrev pub invariant-runs : goal.invariant-runs
invariant-runs l = IsReordered (records_in l.rest.items ++ l.all) (records_in l.initial.rest.items)

abbrev pub decreases-runs : goal.decreases-runs
decreases-runs l = length l.rest.items
