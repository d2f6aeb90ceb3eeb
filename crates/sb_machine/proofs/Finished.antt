-- The finish of a Work that code finds among what is held.
use Rattle.std.proofs.Common.{◌≡◌, ℕ, ◌≤◌, Bool, true, false, cond, List, ◌++◌, length, Some, None, refl, ap, subst, ◌∙◌, arith}
use Rattle.std.specs.Prelude.{◌||◌}
use Rattle.std.specs.List.{remove, slice_get}
use Rattle.sb_slow.specs.base.records.declared.item.Record.{Record}
use Rattle.sb_slow.specs.base.records.Elements.{on_lane}
use Rattle.sb_slow.specs.base.pipeline.Operators.{operator_at}
use Rattle.sb_slow.specs.base.pipeline.Shapes.{Shape}
use Rattle.sb_core.specs.containers.declared.container.CoreLane.{CoreLane}
use Rattle.sb_core.specs.declared.moment.Node.{Node}
use Rattle.sb_core.specs.declared.moment.Moment.{Moment}
use Rattle.sb_core.specs.declared.held.Held.{Held}
use Rattle.sb_core.specs.declared.held.Held.TheVariants.{Work}
use Rattle.sb_core.specs.containers.Choices.{first_and_rest, is_empty}
use Rattle.sb_core.specs.Closings.{delivery, kept_elements}
use Rattle.sb_core.specs.Finding.{IsWorkAt}
use Rattle.sb_core.specs.MomentSteps.{bundle_finished}
use Rattle.sb_core.specs.Holdings.{IsHeld}
use Rattle.sb_core.specs.containers.Lanes.{finish_in}
use Rattle.sb_core.specs.Moments.{lane_at, set_lane, set_node, with_held, is_work}
use Rattle.sb_core.specs.Soundness.{IsSound}
use Rattle.sb_core.proofs.places.Carried.{then_never}
use Rattle.sb_core.proofs.places.InPlace.{then_some, place, node_within}
use Rattle.sb_core.proofs.containers.LaneLaws.{All-pulled}

module _ (plan : Shape) (m : Moment) (k l number epoch floor : ℕ) (records : List Record) (delivered : Bool) (others : List Held)
    (found : first_and_rest (is_work k l number) m.held ≡ Some (Work k l epoch floor number records delivered, others)) where
  abbrev pub may-finish : Bool
  may-finish = delivered || is_empty (delivery (operator_at (slice_get plan.steps k)) records)

  -- the node, with the bundle out of the lane and its records kept
  abbrev pub finished-node : Node → CoreLane → Node
  finished-node node lane = record (set_lane l (record lane { conts = finish_in epoch number lane.conts }) node) { kept = node.kept ++ kept_elements (operator_at (slice_get plan.steps k)) (on_lane l records) }

  pub finish-is : (node : Node) (lane : CoreLane) → slice_get m.nodes k ≡ Some node → slice_get node.lanes l ≡ Some lane → may-finish ≡ true
      → bundle_finished plan m k l number ≡ Some (set_node k (finished-node node lane) (with_held others m))
  finish-is node lane at in_it may =
      then_some (first_and_rest (is_work k l number) m.held) (Work k l epoch floor number records delivered, others) _ found
      ∙ then_some (slice_get m.nodes k) node _ at
      ∙ then_some (slice_get node.lanes l) lane _ in_it
      ∙ ap (λ b. cond b (Some (set_node k (finished-node node lane) (with_held others m))) None) may

  pub finish-never : may-finish ≡ false → bundle_finished plan m k l number ≡ None
  finish-never may =
      then_some (first_and_rest (is_work k l number) m.held) (Work k l epoch floor number records delivered, others) _ found
      ∙ then_never (slice_get m.nodes k) _ (λ node. then_never (slice_get node.lanes l) _ (λ lane. ap (λ b. cond b (Some (set_node k (finished-node node lane) (with_held others m))) None) may))

  -- in a sound moment the lane is there, and so its node
  module _ (sound : IsSound plan m) where
    pub lane-of_work : (lane : CoreLane) × (lane_at m (place k l) ≡ Some lane)
    lane-of_work =
        let work = (All-pulled (IsHeld plan m) (is_work k l number) m.held (Work k l epoch floor number records delivered, others) found sound.holds).0 in
        (work.lane, work.there)

    pub node-of_work : k ≤ length plan.steps
    node-of_work = omega (arith, node_within m (place k l) lane-of_work.1 {nodes = m.nodes} refl, sound.nodes)

-- a bundle that is found in hand: it is found in the moment, its lane is there, and so is its node
module _ (m : Moment) {k l n i e f : ℕ} {rs : List Record} {d : Bool} {hs : List Held} (at : IsWorkAt k l n hs i e f rs d) (same : hs ≡ m.held) where
  pub found-in : first_and_rest (is_work k l n) m.held ≡ Some (Work k l e f n rs d, remove m.held i)
  found-in = subst (λ hs. first_and_rest (is_work k l n) hs ≡ Some (Work k l e f n rs d, remove hs i)) same at.found

  module _ {plan : Shape} (sound : IsSound plan m) where
    pub lane-in : (lane : CoreLane) × (lane_at m (place k l) ≡ Some lane)
    lane-in = lane-of_work plan m k l n e f rs d (remove m.held i) found-in sound

    pub node-in : k ≤ length plan.steps
    node-in = node-of_work plan m k l n e f rs d (remove m.held i) found-in sound
