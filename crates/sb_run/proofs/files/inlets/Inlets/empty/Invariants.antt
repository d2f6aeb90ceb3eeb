use Rattle.std.proofs.Common.{◌≡◌, ◌++◌, List}
use Rattle.sb_engines.specs.feeds.base.records.declared.item.Stream.{Stream}
use Rattle.sb_engines.specs.feeds.declared.fed.Fed.{Fed}
use Rattle.sb_engines.specs.feeds.Ends.{ring_in}
use Rattle.sb_run.specs.Pops.{values_of}
use Rattle.sb_run.proofs.files.inlets.Inlets.empty.Given as goal

abbrev pub invariant-loop : goal.invariant-loop
invariant-loop g l = record {
  ring_a : ring_in l.self.a.inward ≡ ring_in l.fn.self.a.inward;
  ring_b : ring_in l.self.b.inward ≡ ring_in l.fn.self.b.inward;
  grows : (s : Stream) → (came : List Fed) × (values_of l.self s ≡ values_of l.fn.self s ++ came);
}
