use Rattle.std.proofs.Common.{◌≡◌}
use Rattle.std.specs.Vec.{vec_capacity}
use Rattle.sb_cascade.proofs.lives.GivingBack.{AreLast, has_spent, own_states}
use Rattle.sb_cascade.proofs.life.gather.Given as goal

abbrev pub invariant-loop-state : goal.invariant-loop-state
invariant-loop-state l =
    (l.nodes.items ≡ own_states l.yielded)
    × (vec_capacity l.nodes ≡ vec_capacity l.initial.nodes)
    × AreLast l.yielded l.tray.items
    × (l.spent ≡ has_spent l.yielded)
