use Rattle.std.proofs.Common.{◌≡◌, take}
use Rattle.std.specs.BTreeMap.{get}
use Rattle.sb_base.specs.window.declared.keyed_window.KeyedWindow.{KeyedWindow}
use Rattle.sb_base.specs.window.Windows.{keyed_window_cmp}
use Rattle.sb_slow.specs.Gathered.{values_at}
use Rattle.sb_slow.proofs.gather.values_by_window.Given as goal

abbrev pub invariant-loop-record : goal.invariant-loop-record
invariant-loop-record l = (q : KeyedWindow) → get keyed_window_cmp l.values q ≡ values_at l.windows (take l.record-index l.records) q
