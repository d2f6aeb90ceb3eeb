-- What soundness says of the containers of the lanes of nodes, and of those of the lane below that are not sealed.
use Rattle.std.proofs.Common.{◌≡◌, ℕ, suc, zero, ◌≤◌, true, List, [], ◌∷◌, length, Some, None, refl, arith}
use Rattle.std.specs.List.{slice_get}
use Rattle.sb_shown.specs.base.pipeline.declared.transform.Step.{Step}
use Rattle.sb_shown.specs.base.pipeline.Plans.{IsPlan}
use Rattle.sb_shown.specs.base.pipeline.Shapes.{Shape}
use Rattle.sb_shown.specs.base.pipeline.Operators.{operator_at}
use Rattle.sb_shown.specs.core.containers.declared.container.CoreLane.{CoreLane}
use Rattle.sb_shown.specs.core.declared.moment.Moment.{Moment}
use Rattle.sb_shown.specs.core.Bounds.{bound_at}
use Rattle.sb_shown.specs.core.Closings.{is_pardo}
use Rattle.sb_shown.specs.core.Moments.{lane_at, node_at}
use Rattle.sb_shown.specs.core.Soundness.{IsSound}
use Rattle.sb_shown.proofs.core.times.LawfulTimely.{lane_of as lane-there}
use Rattle.sb_shown.proofs.core.sound.Orderly.{lawful_of}
use Rattle.sb_shown.specs.lane.LaneView.{LaneView, lane_of}
use Rattle.sb_shown.specs.lane.Links.{link_in, links_of}
use Rattle.sb_shown.proofs.LinkLists.{AreRising, rising}
use Rattle.sb_shown.proofs.OpenBelow.{none-below-pardo}

-- the lane of a node that has one
only-first : (lanes : List CoreLane) (l : ℕ) (lane : CoreLane) → length lanes ≡ 1 → slice_get lanes l ≡ Some lane → l ≡ 0
only-first [] l lane one h = cc
only-first (x ∷ lanes) zero lane one h = refl
only-first (x ∷ []) (suc l) lane one h = cc
only-first (x ∷ y ∷ lanes) (suc l) lane one h = absurd (omega (arith, one))

module _ (plan : Shape) (is_plan : IsPlan plan) (m : Moment) (sound : IsSound plan m) where
  -- a transform of single records has one lane
  pub pardo-first : (k l : ℕ) (lane : CoreLane) → is_pardo (operator_at (slice_get plan.steps k)) ≡ true → lane_at m (record { node = k; lane = l }) ≡ Some lane → l ≡ 0
  pardo-first k l lane pardo at = only-first (node_at m k).lanes l lane ((lawful_of sound).one_lane k pardo) (lane-there plan m (lawful_of sound) k l lane at)

  -- the links of a lane are in order of epoch
  pub links-rise : (k l : ℕ) (lane : LaneView) → lane_at m (record { node = k; lane = l }) ≡ Some (lane_of lane) → AreRising lane.ended (links_of lane.containers)
  links-rise k l lane at = rising (bound_at plan k) lane (sound.lanes (record { node = k; lane = l }) (lane_of lane) at)

  -- an epoch that has no container in a transform of single records, and is not sealed below, has none there
  pub none-under : (k : ℕ) (s : Step) (own under : LaneView) → slice_get plan.steps k ≡ Some s → is_pardo (operator_at (slice_get plan.steps k)) ≡ true
      → lane_at m (record { node = k; lane = 0 }) ≡ Some (lane_of own) → lane_at m s.down ≡ Some (lane_of under)
      → (e : ℕ) → link_in e (links_of own.containers) ≡ None → length under.marks ≤ e → link_in e (links_of under.containers) ≡ None
  none-under k s own under is pardo has below e none from =
      none-below-pardo plan is_plan m sound k s is under below e from pardo own (lane-there plan m (lawful_of sound) k 0 (lane_of own) has) none
