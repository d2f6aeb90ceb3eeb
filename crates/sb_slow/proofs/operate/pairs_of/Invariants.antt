use Rattle.std.proofs.Common.{◌≡◌, ◌++◌}
use Rattle.std.specs.BTreeMap.{get}
use Rattle.sb_base.specs.window.Windows.{keyed_window_cmp}
use Rattle.sb_slow.specs.Gathered.{rows_of_pairs}
use Rattle.sb_slow.proofs.operate.pairs_of.Given as goal

abbrev pub invariant-loop-window : goal.invariant-loop-window
invariant-loop-window l = l.rows.items ++ rows_of_pairs l.combine (get keyed_window_cmp l.right) l.window-iterator ≡ rows_of_pairs l.combine (get keyed_window_cmp l.right) l.fn.left.entries
