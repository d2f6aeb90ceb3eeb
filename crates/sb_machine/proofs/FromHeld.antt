-- The Work or Close that code finds among what is held, and what its event gives.
use Rattle.std.proofs.Common.{◌≡◌, ℕ, ◌+◌, Bool, true, cond, eqb, List, drop, get_or, Some, None, sym, ap, subst, ◌∙◌}
use Rattle.std.specs.Prelude.{◌&&◌}
use Rattle.std.specs.List.{slice_get, remove}
use Rattle.std.proofs.lemmas.Bool.{eqb-true, and_parts}
use Rattle.std.proofs.lemmas.Option.{get_or_from_slice_get}
use Rattle.sb_slow.specs.base.records.declared.item.Record.{Record}
use Rattle.sb_slow.specs.base.pipeline.Shapes.{Shape}
use Rattle.sb_core.specs.containers.declared.container.CoreLane.{CoreLane}
use Rattle.sb_core.specs.declared.moment.Node.{Node}
use Rattle.sb_core.specs.declared.moment.Moment.{Moment}
use Rattle.sb_core.specs.declared.held.Held.{Held}
use Rattle.sb_core.specs.declared.held.Held.TheVariants.{Work, Close}
use Rattle.sb_core.specs.containers.Choices.{first_and_rest}
use Rattle.sb_core.specs.Finding.{IsCloseAt, IsCloseOfAt, IsFirst}
use Rattle.sb_core.specs.MomentSteps.{closing_ended}
use Rattle.sb_core.specs.Holdings.{IsHeld}
use Rattle.sb_core.specs.Moments.{lane_at, set_lane, set_node, with_lane, with_held, is_work, is_close, is_close_of}
use Rattle.sb_core.specs.Soundness.{IsSound}
use Rattle.sb_core.proofs.places.InPlace.{then_some, place, lane-there}
use Rattle.sb_core.proofs.containers.LaneLaws.{All-pulled}
use Rattle.sb_core.proofs.sound.TidyLanes.{pulled-passes}

-- what code reads at the place that it found
pub first-in : {X : Type 0} (p : X → Bool) (xs ys zs : List X) (i : ℕ) (h x : X) → xs ≡ zs → ys ≡ zs → IsFirst p xs (Some i) → h ≡ get_or ys i h → h ≡ x
    → (first_and_rest p zs ≡ Some (x, remove zs i)) × (p x ≡ true)
first-in {X} p xs ys zs i h x e f first at is =
    let there : IsFirst p zs (Some i) = subst (λ l. IsFirst p l (Some i)) e first in
    let same : there.0 ≡ x = sym (get_or_from_slice_get zs i there.0 h there.2) ∙ ap (λ l. get_or l i h) (sym f) ∙ sym at ∙ is in
    (there.3 ∙ ap (λ x. Some (x, remove zs i)) same, subst (λ x. p x ≡ true) same (pulled-passes p zs (there.0, remove zs i) there.3))

-- a Close that is found is of the node, and of the lane
pub close-of : (hs others : List Held) (k n l epoch serial floor mark : ℕ) (rows : List Record) (passed : Bool)
    → (first_and_rest (is_close k) hs ≡ Some (Close n l epoch serial floor mark rows passed, others)) × (is_close k (Close n l epoch serial floor mark rows passed) ≡ true)
    → first_and_rest (is_close k) hs ≡ Some (Close k l epoch serial floor mark rows passed, others)
close-of hs others k n l epoch serial floor mark rows passed h = h.0 ∙ ap (λ n. Some (Close n l epoch serial floor mark rows passed, others)) (eqb-true n k h.1)

pub close-of_lane : (hs others : List Held) (k l n j epoch serial floor mark : ℕ) (rows : List Record) (passed : Bool)
    → (first_and_rest (is_close_of k l) hs ≡ Some (Close n j epoch serial floor mark rows passed, others)) × (is_close_of k l (Close n j epoch serial floor mark rows passed) ≡ true)
    → first_and_rest (is_close_of k l) hs ≡ Some (Close k l epoch serial floor mark rows passed, others)
close-of_lane hs others k l n j epoch serial floor mark rows passed h =
    let both = and_parts (eqb n k) (eqb j l) h.1 in
    h.0 ∙ (λ i. Some (Close (eqb-true n k both.0 i) (eqb-true j l both.1 i) epoch serial floor mark rows passed, others))

-- a Work that is found is that of the bundle
pub work-of : (hs others : List Held) (k l number n j i epoch floor : ℕ) (records : List Record) (delivered : Bool)
    → (first_and_rest (is_work k l number) hs ≡ Some (Work n j epoch floor i records delivered, others)) × (is_work k l number (Work n j epoch floor i records delivered) ≡ true)
    → first_and_rest (is_work k l number) hs ≡ Some (Work k l epoch floor number records delivered, others)
work-of hs others k l number n j i epoch floor records delivered h =
    let first = and_parts (eqb n k) (eqb j l && eqb i number) h.1 in
    let second = and_parts (eqb j l) (eqb i number) first.1 in
    h.0 ∙ (λ z. Some (Work (eqb-true n k first.0 z) (eqb-true j l second.0 z) epoch floor (eqb-true i number second.1 z) records delivered, others))

-- the end of a closing that is found
module _ (m : Moment) (k l epoch serial floor mark : ℕ) (rows : List Record) (passed : Bool) (others : List Held)
    (found : first_and_rest (is_close k) m.held ≡ Some (Close k l epoch serial floor mark rows passed, others)) where
  pub end-done : (node : Node) (lane : CoreLane) → slice_get m.nodes k ≡ Some node → slice_get node.lanes l ≡ Some lane → passed ≡ true
      → closing_ended m k ≡ Some (set_node k (set_lane l (record lane { conts = drop 1 lane.conts; ended = lane.ended + 1 }) node) (with_held others m))
  end-done node lane at in_it is =
      then_some (first_and_rest (is_close k) m.held) (Close k l epoch serial floor mark rows passed, others) _ found
      ∙ then_some (lane_at m (place k l)) lane _ (lane-there m k node at l lane in_it)
      ∙ ap (λ b. cond b (with_lane (place k l) (record lane { conts = drop 1 lane.conts; ended = lane.ended + 1 }) (with_held others m)) None) is
      ∙ then_some (slice_get m.nodes k) node _ at

  -- in a sound moment the lane is there
  pub lane-of_close : (plan : Shape) → IsSound plan m → (lane : CoreLane) × (lane_at m (place k l) ≡ Some lane)
  lane-of_close plan sound =
      let close = (All-pulled (IsHeld plan m) (is_close k) m.held (Close k l epoch serial floor mark rows passed, others) found sound.holds).0 in
      (close.lane, close.there)

-- a closing that is found in hand is found in the moment, and its lane is there
module _ (m : Moment) {k i l e s f n : ℕ} {rows : List Record} {p : Bool} {hs : List Held} (at : IsCloseAt k hs i l e s f n rows p) (same : hs ≡ m.held) where
  pub close-in : first_and_rest (is_close k) m.held ≡ Some (Close k l e s f n rows p, remove m.held i)
  close-in = subst (λ hs. first_and_rest (is_close k) hs ≡ Some (Close k l e s f n rows p, remove hs i)) same at.found

  pub close-lane : (plan : Shape) → IsSound plan m → (lane : CoreLane) × (lane_at m (place k l) ≡ Some lane)
  close-lane plan sound = lane-of_close m k l e s f n rows p (remove m.held i) close-in plan sound

module _ (m : Moment) {k l i e s f n : ℕ} {rows : List Record} {p : Bool} {hs : List Held} (at : IsCloseOfAt k l hs i e s f n rows p) (same : hs ≡ m.held) where
  pub close-in_lane : first_and_rest (is_close_of k l) m.held ≡ Some (Close k l e s f n rows p, remove m.held i)
  close-in_lane = subst (λ hs. first_and_rest (is_close_of k l) hs ≡ Some (Close k l e s f n rows p, remove hs i)) same at.found
