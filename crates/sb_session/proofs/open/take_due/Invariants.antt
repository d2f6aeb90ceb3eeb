use Rattle.std.proofs.Common.{◌≡◌, ◌≤◌, [], ◌++◌}
use Rattle.std.specs.Prelude.{All, ◌⊎◌}
use Rattle.std.specs.List.Sorted.{IsStrictlySortedBy}
use Rattle.std.specs.BTreeSet.{btree_set_len}
use Rattle.sb_windowed.specs.window.Windows.{keyed_window_cmp}
use Rattle.sb_session.proofs.open.take_due.Given as goal

abbrev pub invariant-loop-session : goal.invariant-loop-session
invariant-loop-session l = record {
  split : l.fn.due.keys ≡ l.ended.items ++ l.due.keys;
  by_mark : All (λ q. q.end ≤ l.mark) l.ended.items;
  in_order : (l.ended.items ≡ []) ⊎ IsStrictlySortedBy keyed_window_cmp l.fn.due.keys;
}

abbrev pub decreases-loop-session : goal.decreases-loop-session
decreases-loop-session l = btree_set_len l.due
