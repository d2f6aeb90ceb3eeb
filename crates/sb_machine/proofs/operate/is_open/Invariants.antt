use Rattle.std.proofs.Common.{◌≡◌, nat_lt}
use Rattle.std.specs.List.{list_any}
use Rattle.sb_slow.specs.base.window.Windows.{window_ends}
use Rattle.sb_machine.proofs.operate.is_open.Given as goal

abbrev pub invariant-loop-end : goal.invariant-loop-end
invariant-loop-end l = list_any (λ end. nat_lt l.mark end) (window_ends l.windows l.time) ≡ list_any (λ end. nat_lt l.mark end) l.end-iterator
