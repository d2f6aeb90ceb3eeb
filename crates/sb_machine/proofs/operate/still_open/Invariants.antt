use Rattle.std.proofs.Common.{◌≡◌, nat_lt, filter, take}
use Rattle.std.specs.List.{list_any}
use Rattle.sb_slow.specs.base.window.Windows.{window_ends}
use Rattle.sb_machine.proofs.operate.still_open.Given as goal

abbrev pub invariant-loop-element : goal.invariant-loop-element
invariant-loop-element l = l.left.items ≡ filter (λ e. list_any (λ end. nat_lt l.mark end) (window_ends l.windows e.rec.time)) (take l.element-index l.kept)
