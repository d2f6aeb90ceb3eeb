use Rattle.std.proofs.Common.{◌≡◌, nat_lt, filter, not, take}
use Rattle.sb_machine.proofs.operate.from_mark.Given as goal

abbrev pub invariant-loop-element : goal.invariant-loop-element
invariant-loop-element l = l.left.items ≡ filter (λ e. not (nat_lt e.rec.time l.mark)) (take l.element-index l.kept)
