use Rattle.std.proofs.Common.{List}
use Rattle.sb_alone.specs.feeds.base.records.declared.item.Record.{Record}
use Rattle.sb_worker.specs.cascade.Calls.{IsEmptyHanded}
use Rattle.sb_alone.specs.feeds.one_feed.Feeds.{Fed}
use Rattle.sb_engines.specs.Feeders.{HasFed, IsStill}
use Rattle.sb_engines.proofs.shared.working.settle.Given as goal

abbrev pub invariant-loop : goal.invariant-loop
invariant-loop g l = record {
  same : IsStill l.common.cascade.now l.fn.pass l.pass;
  empty : IsEmptyHanded l.pass;
  feeder : (f : Fed) (rows : List Record) → HasFed l.common.cascade.now l.fn.pass f rows → HasFed l.common.cascade.now l.pass f rows;
}
