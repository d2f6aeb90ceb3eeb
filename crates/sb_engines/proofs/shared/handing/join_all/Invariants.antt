use Rattle.std.proofs.Common.{List, length}
use Rattle.std.specs.List.{AllByRecursion}
use Rattle.sb_alone.specs.feeds.base.records.declared.item.Record.{Record}
use Rattle.sb_alone.specs.feeds.one_feed.Feeds.{Fed}
use Rattle.sb_engines.specs.Feeders.{HasFed}
use Rattle.sb_worker.specs.Helping.{IsFirst, IsHelper}
use Rattle.sb_engines.proofs.shared.handing.join_all.Given as goal

abbrev pub invariant-helpers : goal.invariant-helpers
invariant-helpers l = record {
  first : IsFirst l.cascade (length l.helpers.items) l.pass;
  helpers : AllByRecursion (IsHelper l.cascade) l.helpers.items;
  fed : (f : Fed) (rows : List Record) → HasFed l.cascade l.fn.pass f rows → HasFed l.cascade l.pass f rows;
}

abbrev pub decreases-helpers : goal.decreases-helpers
decreases-helpers l = length l.helpers.items
