-- A bundle is taken: the moment stays lawful.
use Rattle.sb_containers.specs.base.ElementLemmas.{every}
use Rattle.sb_containers.specs.base.NumberLemmas.{bind_some}
use Rattle.sb_core.specs.Moments
use Rattle.std.proofs.Common.{◌≡◌, ℕ, ◌+◌, true, false, cond, List, [], ◌∷◌, ◌++◌, Some, refl, subst, ◌∙◌, arith}
use Rattle.std.proofs.lemmas.List.Sums.{sum_by-append}
use Rattle.std.proofs.lemmas.List.Folds.{list_any-append}
use Rattle.std.proofs.Math.Bool.{or-false}
use Rattle.sb_containers.specs.base.bundle.declared.bundle.Bundle.{Bundle}
use Rattle.sb_containers.specs.declared.container.Cont.{Cont}
use Rattle.sb_containers.specs.declared.container.CoreLane.{CoreLane}
use Rattle.sb_containers.specs.base.pipeline.declared.transform.Down.{Down}
use Rattle.sb_containers.specs.base.pipeline.Shapes.{Shape}
use Rattle.sb_core.specs.declared.moment.Moment.{Moment}
use Rattle.sb_core.specs.declared.held.Held.{Held}
use Rattle.sb_core.specs.declared.held.Held.TheVariants.{Work}
use Rattle.sb_containers.specs.Lanes.{take_from}
use Rattle.sb_core.specs.MomentSteps.{after_take}
use Rattle.sb_core.specs.Moments.{is_close, is_close_of, lane_at, set_lane, set_node, with_held}
use Rattle.sb_containers.specs.LaneOrder.{IsLane}
use Rattle.sb_core.specs.Bounds.{bound_at}
use Rattle.sb_core.specs.Holdings.{IsHeld, is_unpassed}
use Rattle.sb_core.proofs.sound.Orderly.{IsLawful}
use Rattle.sb_core.proofs.exact.Nodes.{lane_at-there}
use Rattle.sb_core.proofs.lawful.Frame.{frame, holds_still}
use Rattle.sb_containers.proofs.Stays.{IsKept}
use Rattle.sb_core.proofs.exact.Gives.{lane_at-parts, with_lane-is}
use Rattle.sb_core.proofs.sound.HeldLists.{All-last}
use Rattle.sb_containers.proofs.LaneLaws.{take_from-differ, containers-differ}
use Rattle.sb_containers.proofs.Taking.{containers-taken, take_from-grows, still_at, differ-closing, differ-tail, take-ready}

pub take-lawful : (plan : Shape) (m m' : Moment) (d : Down) (number : ℕ) → after_take m d number ≡ Some m' → IsLawful plan m → IsLawful plan m'
take-lawful plan m m' d number h lawful =
    let a = bind_some (lane_at m d) _ m' h in
    let b = bind_some (take_from number a.0.conts) _ m' a.2 in
    go a.0 b.0 a.1 b.1 b.2
  where
    go : (lane : CoreLane) (q : Bundle × List Cont) → lane_at m d ≡ Some lane → take_from number lane.conts ≡ Some q
        → Moments.with_lane d (record lane { conts = q.1 }) (with_held (m.held ++ Work d.node d.lane q.0.epoch q.0.floor number q.0.records false ∷ []) m) ≡ Some m' → IsLawful plan m'
    go lane q at took h =
        let p = lane_at-parts m d lane at in
        let ok : IsLane (bound_at plan d.node) lane = lawful.lanes d lane at in
        let work : Held = Work d.node d.lane q.0.epoch q.0.floor number q.0.records false in
        let with : CoreLane = record lane { conts = q.1 } in
        let made = with_lane-is (with_held (m.held ++ work ∷ []) m) d p.0 with m' p.1 h in
        let differ = take_from-differ (bound_at plan d.node) number lane.conts q took in
        let taken = (containers-taken (bound_at plan d.node) lane.ended _ number _ lane.conts q took ok.containers).taken in
        let kept : IsKept lane with = record {
          marks = refl;
          ended = refl;
          closing = differ-closing (bound_at plan d.node) lane.conts q.1 differ;
          out = λ epoch n c e o. still_at (bound_at plan d.node) epoch n lane.conts q.1 c differ (take_from-grows number lane.conts q took) e o;
        } in
        let there : lane_at (set_node d.node (set_lane d.lane with p.0) (with_held (m.held ++ work ∷ []) m)) d ≡ Some with = lane_at-there m d.node d.lane p.0 (set_lane d.lane with p.0) lane with p.1 p.2 refl in
        subst (IsLawful plan) made
        (frame plan m d p.0 lane with p.1 p.2 kept (m.held ++ work ∷ []) lawful
        (record { ended_in = ok.ended_in; rising = ok.rising; containers = containers-differ (bound_at plan d.node) lane.ended _ _ lane.conts q.1 differ ok.containers; ready = take-ready number lane.conts q took ok.ready; others = differ-tail (bound_at plan d.node) lane.conts q.1 differ ok.others })
        (All-last (IsHeld plan (set_node d.node (set_lane d.lane with p.0) (with_held (m.held ++ work ∷ []) m))) m.held work
        (every (λ h. holds_still plan m d p.0 lane with p.1 p.2 kept (m.held ++ work ∷ []) h) m.held lawful.holds)
        (record { lane = with; there = there; cont = taken.cont; of_epoch = taken.of_epoch; floor_is = taken.floor_is; is_out = taken.is_out; times = taken.times; only_pardo = λ f. let x : false ≡ true = f in cc }))
        (λ k. omega (arith, sum_by-append (λ h. cond (is_close k h) 1 0) m.held (work ∷ [])))
        (λ e. list_any-append (is_close_of e.node e.lane) m.held (work ∷ []) ∙ or-false _)
        (λ k. list_any-append (is_unpassed k) m.held (work ∷ []) ∙ or-false _))
