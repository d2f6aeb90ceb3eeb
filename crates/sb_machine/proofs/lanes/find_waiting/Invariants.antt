use Rattle.std.proofs.Common.{◌≡◌, ℕ, ◌<◌, ◌==◌, get_or, None}
use Rattle.sb_core.specs.containers.declared.container.Cont.{Cont}
use Rattle.sb_core.specs.containers.Choices.{first_and_rest}
use Rattle.sb_machine.proofs.lanes.find_waiting.Given as goal

abbrev pub invariant-loop-at : goal.invariant-loop-at
invariant-loop-at l = (k : ℕ) (d : Cont) → k < l.at → first_and_rest (λ b. b.number == l.number) (get_or l.conts k d).waiting ≡ None
