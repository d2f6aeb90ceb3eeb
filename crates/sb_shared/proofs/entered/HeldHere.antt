-- What a pass has in hand, in the node that it finds.
use Rattle.std.proofs.Common.{◌≡◌, ℕ, ◌+◌, ◌≤◌, ◌<◌, Bool, true, cond, List, [], ◌∷◌, length, Some, Option, sym, refl, ap, subst, ◌∙◌, arith}
use Rattle.std.specs.List.{slice_get, AllByRecursion}
use Rattle.std.proofs.lemmas.Option.{slice_get_within}
use Rattle.sb_shown.specs.base.records.declared.item.Record.{Record}
use Rattle.sb_shown.specs.base.records.Elements.{on_lane}
use Rattle.sb_shown.specs.base.records.Reading.{◌>>=◌}
use Rattle.sb_shown.specs.base.window.Groupings.{IsFrom}
use Rattle.sb_shown.specs.base.pipeline.Operators.{Operator, lanes_of}
use Rattle.sb_shown.specs.base.pipeline.Operators.Operator.{ParDo, Windowed, Sink}
use Rattle.sb_shown.specs.core.declared.held.Held.{Held}
use Rattle.sb_shown.specs.core.containers.declared.container.CoreLane.{CoreLane}
use Rattle.sb_shown.specs.core.declared.moment.Node.{Node}
use Rattle.sb_shown.specs.core.Bounds.{bound_at}
use Rattle.sb_shown.specs.core.Closings.{is_pardo}
use Rattle.sb_shown.specs.core.Holdings.{IsClosing, IsHeld, IsWork}
use Rattle.sb_shown.specs.core.containers.LaneOrder.{IsWithin, cont_at}
use Rattle.sb_shown.specs.core.containers.Marks.{begun_count, least_begun_mark, first_is_closing}
use Rattle.sb_shown.proofs.core.containers.Begun.{begun_within, closed_least, work_floor, begun_mark}
use Rattle.sb_shown.specs.lane.LaneView.{LaneView}
use Rattle.sb_shown.specs.lane.Placed.{conts_of}
use Rattle.sb_shown.specs.node.Changes.{HasLane}
use Rattle.sb_shown.specs.node.declared.closing.Closing.{Closing}
use Rattle.sb_shown.specs.work.declared.claim.Claim.{Claim}
use Rattle.sb_shared.specs.declared.telling.Hands.{Hands}
use Rattle.sb_shared.specs.declared.telling.Setting.{Setting}
use Rattle.sb_shared.specs.Doings.{close_of, work_of}
use Rattle.sb_shared.specs.Found.{IsFound}
use Rattle.sb_shared.specs.SharedNodes.{IsOut, SharedView}
use Rattle.sb_shared.specs.Shown.{operator_of}
use Rattle.sb_shared.specs.Views.{held_by}
use Rattle.sb_shared.proofs.entered.FoundLanes.{lane_found, lanes_are}
use Rattle.sb_shared.proofs.leavings.HeldEvents.{in-hand}

one_lane : (op : Operator) → is_pardo op ≡ true → lanes_of op ≡ 1
one_lane (ParDo op) h = refl
one_lane (Windowed g) h = cc
one_lane Sink h = cc

module _ (a : Setting) (w : Hands) (k : ℕ) (x : SharedView) (f : IsFound a w k x) where
  -- it holds of the moment
  pub held_here : (h : Held) → held_by w ≡ h ∷ [] → IsHeld a.plan f.moment h
  held_here h only = (subst (λ (hs : List Held). AllByRecursion (IsHeld a.plan f.moment) hs) (in-hand a w k x h f only) f.sound.holds).0

  -- a transform of single records has one lane
  pub lane_is_first : is_pardo (operator_of a k) ≡ true → (l : ℕ) (at : LaneView) → HasLane l at x.own → l ≡ 0
  lane_is_first pardo l at has = omega (arith, slice_get_within x.own.lanes.items l at has, lanes_are a w k x f, one_lane (operator_of a k) pardo)

  module _ (c : Claim) (delivered : Bool) (has : held_by w ≡ work_of c delivered ∷ []) where
    pub work_here : IsWork a.plan f.moment c.node c.lane c.bundle.epoch c.bundle.floor c.bundle.number c.bundle.records delivered
    work_here = held_here (work_of c delivered) has

    -- a bundle in hand is out of its lane
    pub out_here : c.node ≡ k → (at : LaneView) × HasLane c.lane at x.own × IsOut c.bundle.epoch c.bundle.number (conts_of at.containers)
    out_here here =
        let v = work_here in
        let at = lane_found a w k x f (record { node = c.node; lane = c.lane }) v.lane here v.there in
        (at.0, at.1, (v.cont, ap (λ (z : CoreLane). cont_at c.bundle.epoch z.conts) at.2 ∙ v.of_epoch, v.is_out))

    -- its records are from the mark of its node on
    pub records_from : c.node ≡ k → IsFrom (least_begun_mark f.part.lanes) (on_lane c.lane c.bundle.records)
    records_from here =
        let v = work_here in
        let in_it : slice_get f.part.lanes c.lane ≡ Some v.lane =
        ap (λ (o : Option Node). o >>= λ y. slice_get y.lanes c.lane) (sym f.there) ∙ ap (λ j. slice_get f.moment.nodes j >>= λ y. slice_get y.lanes c.lane) (sym here) ∙ v.there in
        let low : least_begun_mark f.part.lanes ≤ begun_mark v.lane = closed_least f.part.lanes c.lane v.lane in_it in
        let late = work_floor (bound_at a.plan c.node) v.lane (f.sound.lanes (record { node = c.node; lane = c.lane }) v.lane v.there) c.bundle.epoch c.bundle.number v.cont v.of_epoch v.is_out in
        go c.bundle.records v.times (omega (arith, low, late, v.floor_is))
      where
        go : (rs : List Record) → IsWithin c.bundle.floor (bound_at a.plan c.node) rs → least_begun_mark f.part.lanes ≤ c.bundle.floor → IsFrom (least_begun_mark f.part.lanes) (on_lane c.lane rs)
        go [] all h = tt
        go (r ∷ rs) all h = (omega (arith, all.0.0, h), go rs all.1 h)

  module _ (c : Closing) (rows : List Record) (passed : Bool) (has : held_by w ≡ close_of c rows passed ∷ []) where
    pub close_here : IsClosing a.plan f.moment c.node c.lane c.epoch c.serial c.floor c.mark rows passed
    close_here = held_here (close_of c rows passed) has

    -- the oldest container of the lane of a closing in hand is closing, and its epoch is sealed
    pub closing_here : c.node ≡ k → (at : LaneView) × HasLane c.lane at x.own × (first_is_closing (conts_of at.containers) ≡ true) × (at.ended < length at.marks) × (c.epoch ≡ at.ended)
    closing_here here =
        let v = close_here in
        let at = lane_found a w k x f (record { node = c.node; lane = c.lane }) v.lane here v.there in
        let low = begun_within (bound_at a.plan c.node) v.lane (f.sound.lanes (record { node = c.node; lane = c.lane }) v.lane v.there) in
        let one_more : begun_count v.lane ≡ v.lane.ended + 1 = ap (λ b. cond b (v.lane.ended + 1) v.lane.ended) v.closing in
        let ended_is = ap (λ (z : CoreLane). z.ended) at.2 in
        let marks_are = ap (λ (z : CoreLane). length z.marks) at.2 in (
          at.0,
          at.1,
          ap (λ (z : CoreLane). first_is_closing z.conts) at.2 ∙ v.closing,
          omega (arith, low, one_more, ended_is, marks_are),
          v.epoch_is ∙ sym ended_is,
        )
