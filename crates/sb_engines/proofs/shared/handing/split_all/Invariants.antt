use Rattle.std.proofs.Common.{◌≤◌, ◌-◌, List, length}
use Rattle.std.specs.List.{AllByRecursion}
use Rattle.std.specs.Vec.{vec_capacity}
use Rattle.sb_alone.specs.feeds.base.records.declared.item.Record.{Record}
use Rattle.sb_alone.specs.feeds.one_feed.Feeds.{Fed}
use Rattle.sb_engines.specs.Feeders.{HasFed}
use Rattle.sb_worker.specs.Helping.{IsFirst, IsHelper}
use Rattle.sb_engines.proofs.shared.handing.split_all.Given as goal

abbrev pub invariant-helpers : goal.invariant-helpers
invariant-helpers l = record {
  first : IsFirst l.cascade (length l.helpers.items) l.pass;
  helpers : AllByRecursion (IsHelper l.cascade) l.helpers.items;
  most : length l.helpers.items ≤ l.count;
  room : l.count ≤ vec_capacity l.helpers;
  fed : (f : Fed) (rows : List Record) → HasFed l.cascade l.fn.pass f rows → HasFed l.cascade l.pass f rows;
}

abbrev pub decreases-helpers : goal.decreases-helpers
decreases-helpers l = l.count - length l.helpers.items
