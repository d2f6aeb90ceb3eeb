use Rattle.std.proofs.Common.{◌≡◌, take}
use Rattle.sb_base.specs.records.Streams as streams_spec
use Rattle.sb_slow.proofs.gather.records_of.Given as goal

abbrev pub invariant-loop-item : goal.invariant-loop-item
invariant-loop-item l = l.records.items ≡ streams_spec.records_of l.stream (take l.item-index l.items)
