use Rattle.std.proofs.Common.{ℕ, ◌<◌, List}
use Rattle.sb_feeds.specs.base.records.declared.item.Record.{Record}
use Rattle.sb_hand.specs.Stepping.{IsIdle}
use Rattle.sb_feeds.specs.one_feed.Feeds.{Fed}
use Rattle.sb_alone.specs.Rested.{HasSameSetting, IsWhole}
use Rattle.sb_alone.proofs.working.settle.Given as goal

abbrev pub invariant-nodes : goal.invariant-nodes
invariant-nodes l = record {
  same : HasSameSetting l.initial.hand l.hand;
  whole : (f : Fed) (rows : List Record) → IsWhole l.initial.hand f rows → IsWhole l.hand f rows;
  idle : (k : ℕ) → k < l.node → IsIdle k l.hand.nodes;
}
