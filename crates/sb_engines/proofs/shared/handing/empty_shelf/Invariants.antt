use Rattle.std.proofs.Common.{List}
use Rattle.sb_alone.specs.feeds.base.records.declared.item.Record.{Record}
use Rattle.sb_alone.specs.feeds.one_feed.Feeds.{Fed}
use Rattle.sb_engines.specs.Feeders.{HasFed}
use Rattle.sb_worker.specs.Helping.{IsFirst}
use Rattle.sb_engines.proofs.shared.handing.empty_shelf.Given as goal

abbrev pub invariant-loop : goal.invariant-loop
invariant-loop g l = record {
  first : IsFirst l.cascade 0 l.pass;
  fed : (f : Fed) (rows : List Record) → HasFed l.cascade l.fn.pass f rows → HasFed l.cascade l.pass f rows;
}
