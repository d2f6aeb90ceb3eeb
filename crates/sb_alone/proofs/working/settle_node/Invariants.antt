use Rattle.std.proofs.Common.{◌≡◌, ℕ, ◌<◌, List}
use Rattle.std.specs.List.{slice_get}
use Rattle.sb_feeds.specs.base.records.declared.item.Record.{Record}
use Rattle.sb_hand.specs.Todo.{todo_at}
use Rattle.sb_feeds.specs.one_feed.Feeds.{Fed}
use Rattle.sb_alone.specs.Rested.{HasSameSetting, IsWhole}
use Rattle.sb_alone.proofs.working.settle_node.Given as goal

abbrev pub invariant-steps : goal.invariant-steps
invariant-steps l = record {
  same : HasSameSetting l.initial.hand l.hand;
  whole : (f : Fed) (rows : List Record) → IsWhole l.initial.hand f rows → IsWhole l.hand f rows;
  earlier : (k : ℕ) → k < l.node → slice_get l.hand.nodes k ≡ slice_get l.initial.hand.nodes k;
}

abbrev pub decreases-steps : goal.decreases-steps
decreases-steps l = todo_at l.node l.hand.nodes
