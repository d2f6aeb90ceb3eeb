use Rattle.std.proofs.Common.{arith}
use Rattle.std.proofs.lemmas.List.{length-map}
use Rattle.sb_emit.proofs.OfferedTaps.{nothing_offered, tap_stays, tap_goes, tap_refuses, is_within, all_offered}
use Rattle.sb_emit.proofs.offering.offer.Goals as goal
use Rattle.sb_emit.proofs.offering.offer.Goals.{then-stays, else-stays}

pub places-init : goal.places-init
places-init g c = nothing_offered c.args.row.now _

pub offer_at-requires-clause-place : goal.offer_at-requires-clause-place
offer_at-requires-clause-place g c =
    let many = length-map c.args.taps.now.items (λ t. (goal.Tap-dyn g (t.vtable, t.value)).tap_state t.value) in
    let few = length-map c.places.taps.items (λ t. (goal.Tap-dyn g (t.vtable, t.value)).tap_state t.value) in
    let within = is_within c.args.row.now c.places.place c.places.staying _ _ c.places.invariant (omega arith) in
    omega arith

pub places-preserved : goal.places-preserved
places-preserved g c =
    elim c.if-stays.branch [
      | then-stays w ↦ rw w.staying-is (tap_stays _ _ _ _ _ _ c.places.invariant (rw w.if-stays.true at c.in-Ok.ensures))
      | else-stays w ↦ rw w.staying-is (tap_goes _ _ _ _ _ _ c.places.invariant (rw w.if-stays.false at c.in-Ok.ensures))
    ]

pub returns-in-Err-Failed-clause-offers : goal.returns-in-Err-Failed-clause-offers
returns-in-Err-Failed-clause-offers g c = tap_refuses _ c.places.place _ _ _ _ _ c.places.invariant (rw c.in-Err-Failed.field-0-is at c.in-Err-Failed.ensures)

pub returns-in-Err-Memory-clause-offers : goal.returns-in-Err-Memory-clause-offers
returns-in-Err-Memory-clause-offers g c = (c.places.place, tap_refuses _ c.places.place _ _ _ _ _ c.places.invariant (rw c.in-Err-Memory.field-0-is at c.in-Err-Memory.ensures))

pub returns-clause-offers : goal.returns-clause-offers
returns-clause-offers g c =
    let many = length-map c.args.taps.now.items (λ t. (goal.Tap-dyn g (t.vtable, t.value)).tap_state t.value) in
    all_offered c.args.row.now c.places.place c.places.staying _ _ c.places.invariant (omega arith)
