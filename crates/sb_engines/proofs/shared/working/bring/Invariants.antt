use Rattle.std.proofs.Common.{◌≡◌, List}
use Rattle.sb_alone.specs.feeds.base.records.declared.item.Record.{Record}
use Rattle.sb_alone.specs.feeds.one_feed.Feeds.{Fed}
use Rattle.sb_engines.specs.Feeders.{HasFed, IsStill}
use Rattle.sb_engines.proofs.shared.working.bring.Given as goal

abbrev pub invariant-loop : goal.invariant-loop
invariant-loop g l = record {
  feeder : (f : Fed) (rows : List Record) → HasFed l.common.cascade.now l.fn.pass f rows → HasFed l.common.cascade.now l.pass f rows;
  same : IsStill l.common.cascade.now l.fn.pass l.pass;
  bundle : l.waiting ≡ l.fn.bundle;
}
