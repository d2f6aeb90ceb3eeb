use Rattle.std.proofs.Common.{ℕ, ◌<◌, get_or}
use Rattle.sb_core.specs.containers.declared.container.Cont.{Cont}
use Rattle.sb_machine.proofs.lanes.find_epoch.Given as goal

abbrev pub invariant-loop-place : goal.invariant-loop-place
invariant-loop-place l = (k : ℕ) (d : Cont) → k < l.place → (get_or l.conts k d).epoch < l.epoch
