use Rattle.std.proofs.Common.{map}
use Rattle.sb_emit.proofs.OfferedTaps.{Offering}
use Rattle.sb_emit.proofs.offering.offer.Given as goal

abbrev pub invariant-places : goal.invariant-places
invariant-places g l =
    Offering l.row l.place l.staying (map (λ t. (goal.Tap-dyn g (t.vtable, t.value)).tap_state t.value) l.fn.taps.items) (map (λ t. (goal.Tap-dyn g (t.vtable, t.value)).tap_state t.value) l.taps.items)
