-- The laws of an event by the part of its node.
use Rattle.std.proofs.Common.{◌≡◌, ℕ, Bool, true, false, cond, eqb, List, ◌∷◌, ◌++◌, Some, Option}
use Rattle.std.specs.Prelude.{◌&&◌}
use Rattle.std.proofs.lemmas.Bool.{eqb-true, and_parts}
use Rattle.std.proofs.lemmas.List.Sorted.{IsPermutation-append_comm}
use Rattle.std.proofs.lemmas.Option.{same_Some}
use Rattle.sb_containers.specs.base.NumberLemmas.{bind_some}
use Rattle.sb_containers.specs.base.records.declared.item.Record.{Record}
use Rattle.sb_containers.specs.base.records.Reading.{◌>>=◌}
use Rattle.sb_containers.specs.base.pipeline.declared.transform.Down.{Down}
use Rattle.sb_core.specs.declared.held.Held.TheVariants.{Work, Close}
use Rattle.sb_core.specs.declared.event.Event.TheVariants.{Deliver}
use Rattle.sb_core.specs.Events.{concerns, with_part}
use Rattle.sb_core.specs.Laws.{records_fed_after}
use Rattle.sb_core.specs.Moments.{with_held}
use Rattle.sb_core.specs.Parts.{PartsKeepSound, HeldPartsKeepSound, PartsAreEvents, EventsAreParts}
use Rattle.sb_core.proofs.parts.ByParts.{apart, part-is_event}
use Rattle.sb_core.proofs.sound.AnyOrder.{held-in_any_order}
use Rattle.sb_core.proofs.sound.AfterSound.{events-keep_sound}
pub use Rattle.sb_core.proofs.parts.ByParts.{chain, passing, held-parts_are_events}

pub names : (o : Option Down) (k : ℕ) → (o >>= λ d. Some d.node) ≡ Some k → (d : Down) × (o ≡ Some d) × (d.node ≡ k)
names o k h = let a = bind_some o (λ d. Some d.node) k h in (a.0, a.1, same_Some a.0.node k a.2)

-- whose Work or Close it is
pub owner-close : (n l number y i epoch serial floor mark : ℕ) (rows : List Record) (passed : Bool) → concerns (Deliver n l number) (Close y i epoch serial floor mark rows passed) ≡ true → y ≡ n
owner-close n l number y i epoch serial floor mark rows passed h = by_case (eqb number 0) h
  where
    by_case : (b : Bool) → cond b (eqb y n && eqb i l) false ≡ true → y ≡ n
    by_case true h = eqb-true y n (and_parts (eqb y n) (eqb i l) h).0
    by_case false h = cc

pub owner-work : (n l number y i epoch floor other : ℕ) (records : List Record) (delivered : Bool) → concerns (Deliver n l number) (Work y i epoch floor other records delivered) ≡ true → y ≡ n
owner-work n l number y i epoch floor other records delivered h = by_case (eqb number 0) h
  where
    by_case : (b : Bool) → cond b false (eqb y n && (eqb i l && eqb other number)) ≡ true → y ≡ n
    by_case true h = cc
    by_case false h = eqb-true y n (and_parts (eqb y n) _ h).0

pub parts-are_events : PartsAreEvents
parts-are_events plan m event k node p sound place there does = part-is_event plan m event k node p place there does

pub events-are_parts : EventsAreParts
events-are_parts plan m later event h sound = apart plan m later event h

-- ---- the law by parts
pub parts-keep_sound : PartsKeepSound
parts-keep_sound plan is_plan m event k node p sound named at h =
    let e = parts-are_events plan m event k node p sound named at h in
    let s = events-keep_sound plan is_plan m (with_part k m.held m p) event e sound in
    let o = held-in_any_order plan (with_part k m.held m p) (p.held ++ m.held) (IsPermutation-append_comm m.held p.held) s.0 in
    (o.0, λ fed exact. o.1 (records_fed_after event fed) (s.1 fed exact))

pub held-parts_keep_sound : HeldPartsKeepSound
held-parts_keep_sound plan is_plan m event h rest k node p sound c named at e =
    let z = held-parts_are_events plan m event h rest k node p c named at e in
    let s = events-keep_sound plan is_plan (with_held (h ∷ rest) m) (with_part k rest m p) event z sound in
    let o = held-in_any_order plan (with_part k rest m p) (p.held ++ rest) (IsPermutation-append_comm rest p.held) s.0 in
    (o.0, λ fed exact. o.1 (records_fed_after event fed) (s.1 fed exact))
