-- What a pass that enters a node below may rely on of where its output goes.
use Rattle.std.proofs.Common.{◌≡◌, ℕ, ◌≤◌, Bool, true, false, List, [], ◌∷◌, ◌++◌, length, Some, Option, sym, refl, ap, subst, ◌∙◌, arith}
use Rattle.std.specs.Prelude.{slice_get}
use Rattle.std.specs.List.{AllByRecursion}
use Rattle.sb_shown.specs.base.records.Reading.{◌>>=◌}
use Rattle.sb_shown.specs.base.records.declared.item.Record.{Record}
use Rattle.sb_shown.specs.base.pipeline.declared.transform.Step.{Step}
use Rattle.sb_shown.specs.core.declared.held.Held.{Held}
use Rattle.sb_shown.specs.core.declared.moment.Node.{Node}
use Rattle.sb_shown.specs.core.Holdings.{IsClosing, IsHeld, IsWork}
use Rattle.sb_shown.specs.core.Moments.{epoch_at, epoch_of, lane_at}
use Rattle.sb_shown.proofs.core.exact.AfterExact.{not_sealed}
use Rattle.sb_shown.proofs.core.sound.Orderly.{lawful_of}
use Rattle.sb_shown.specs.lane.Changes.{StandsAt}
use Rattle.sb_shown.specs.lane.LaneView.{LaneView, lane_of}
use Rattle.sb_shown.specs.lane.Links.{down_of, links_of}
use Rattle.sb_shown.specs.node.Changes.{HasLane}
use Rattle.sb_shown.specs.node.declared.closing.Closing.{Closing}
use Rattle.sb_shown.specs.work.declared.claim.Claim.{Claim}
use Rattle.sb_shown.proofs.Single.{get-map}
use Rattle.sb_shared.specs.declared.telling.Hands.{Hands}
use Rattle.sb_shared.specs.declared.telling.Setting.{Setting}
use Rattle.sb_shared.specs.Doings.{close_of, work_of}
use Rattle.sb_shared.specs.Found.{IsFound}
use Rattle.sb_shared.specs.Linked.{IsPlaceHere, KnowsLink, is_pardo_at}
use Rattle.sb_shared.specs.SharedNodes.{SharedView}
use Rattle.sb_shared.specs.Views.{held_by}
use Rattle.sb_shared.proofs.links.LeftLanes.{one-lane}
use Rattle.sb_shared.proofs.links.LinkedAfter.{only-listed, place-stands}
use Rattle.sb_shared.proofs.links.UnsealedBelow.{pardo-first}

module _ (a : Setting) (w : Hands) (k : ℕ) (x : SharedView) (f : IsFound a w k x) where
  -- the lane of the moment
  pub lane-found : (l : ℕ) (lane : LaneView) → HasLane l lane x.own → lane_at f.moment (record { node = k; lane = l }) ≡ Some (lane_of lane)
  lane-found l lane has =
      ap (λ (o : Option Node). o >>= λ p. slice_get p.lanes l) f.there
      ∙ ap (λ ls. slice_get ls l) f.shown.lanes ∙ get-map lane_of x.own.lanes.items l lane has

  -- a transform of single records has one lane
  pub first-found : (l : ℕ) (lane : LaneView) → is_pardo_at a k ≡ true → HasLane l lane x.own → l ≡ 0
  first-found l lane pardo has = pardo-first a.plan f.plan f.moment f.sound k l (lane_of lane) pardo (lane-found l lane has)

  -- what is known of where the output of a bundle goes, if what lane 0 says of it is known
  pub take-knows : (l epoch : ℕ) (at : LaneView) (link : Option ℕ) → HasLane l at x.own → (l ≡ 0 → link ≡ down_of epoch (links_of at.containers)) → KnowsLink a k epoch link x
  take-knows l epoch at link has says pardo lane first =
      let zero_is : l ≡ 0 = first-found l at pardo has in
      says zero_is ∙ ap (λ (z : LaneView). down_of epoch (links_of z.containers)) (one-lane 0 x at lane (subst (λ n. HasLane n at x.own) zero_is has) first)

  module _ (l : ℕ) (s : Step) (at : LaneView) (down : s.down ≡ record { node = k; lane = l }) (has : HasLane l at x.own) where
    -- how far the lane below is sealed
    epoch-here : epoch_at f.moment s.down ≡ length at.marks
    epoch-here = ap (epoch_at f.moment) down ∙ ap epoch_of (lane-found l at has)

    -- the epoch of a bundle of a transform of single records is not sealed below
    pub work-open : (c : Claim) (delivered : Bool) → held_by w ≡ work_of c delivered ∷ [] → is_pardo_at a c.node ≡ true → slice_get a.plan.steps c.node ≡ Some s → length at.marks ≤ c.bundle.epoch
    work-open c delivered out pardo is =
        let held : f.moment.held ≡ work_of c delivered ∷ f.rest = f.held ∙ ap (λ (hs : List Held). hs ++ f.rest) out in
        let h : IsWork a.plan f.moment c.node c.lane c.bundle.epoch c.bundle.floor c.bundle.number c.bundle.records delivered = (subst (AllByRecursion (IsHeld a.plan f.moment)) held f.sound.holds).0 in
        let low : epoch_at f.moment s.down ≤ c.bundle.epoch = not_sealed a.plan f.moment (lawful_of f.sound) c.node c.lane c.bundle.epoch c.bundle.floor c.bundle.number c.bundle.records delivered s h pardo is in
        subst (λ n. n ≤ c.bundle.epoch) epoch-here low

    -- the serial of a closing that is not passed is the next epoch below
    pub close-next : (c : Closing) (rows : List Record) → held_by w ≡ close_of c rows false ∷ [] → slice_get a.plan.steps c.node ≡ Some s → length at.marks ≡ c.serial
    close-next c rows out is =
        let held : f.moment.held ≡ close_of c rows false ∷ f.rest = f.held ∙ ap (λ (hs : List Held). hs ++ f.rest) out in
        let h : IsClosing a.plan f.moment c.node c.lane c.epoch c.serial c.floor c.mark rows false = (subst (AllByRecursion (IsHeld a.plan f.moment)) held f.sound.holds).0 in
        sym epoch-here ∙ h.next_under refl s is

    -- the place that is known for a bundle, and for a closing that is not passed, is that of the container here
    pub work-stands : IsPlaceHere a w k x → (c : Claim) (delivered : Bool) (place : ℕ) → held_by w ≡ work_of c delivered ∷ [] → w.link ≡ Some place → is_pardo_at a c.node ≡ true
        → slice_get a.plan.steps c.node ≡ Some s → StandsAt c.bundle.epoch place at.containers
    work-stands known c delivered place out link pardo is =
        place-stands c.bundle.epoch place at (known (work_of c delivered) place l s at (only-listed w.held (work_of c delivered) out) link pardo is down has (work-open c delivered out pardo is))

    pub close-stands : IsPlaceHere a w k x → (c : Closing) (rows : List Record) (place : ℕ) → held_by w ≡ close_of c rows false ∷ [] → w.link ≡ Some place
        → slice_get a.plan.steps c.node ≡ Some s → StandsAt c.serial place at.containers
    close-stands known c rows place out link is =
        place-stands c.serial place at (known (close_of c rows false) place l s at (only-listed w.held (close_of c rows false) out) link refl is down has
        (omega (arith, close-next c rows out is)))
