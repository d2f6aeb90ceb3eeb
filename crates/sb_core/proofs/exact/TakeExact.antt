-- A bundle is taken: each node gives what it gave.
use Rattle.sb_containers.specs.base.NumberLemmas.{bind_some}
use Rattle.std.proofs.Common.{◌≡◌, ℕ, ◌+◌, Bool, true, false, cond, eqb, List, [], ◌∷◌, ◌++◌, Some, Option, sym, refl, ap, subst, ◌∙◌, arith}
use Rattle.std.specs.List.{flat_map, sum_by, list_any}
use Rattle.std.proofs.lemmas.Option.{same_Some}
use Rattle.sb_containers.specs.base.records.declared.element.KeptRec.{KeptRec}
use Rattle.sb_core.specs.declared.held.Held.{Held}
use Rattle.sb_core.specs.declared.held.Held.TheVariants.{Work}
use Rattle.sb_containers.specs.base.pipeline.declared.transform.Down.{Down}
use Rattle.sb_containers.specs.base.pipeline.Shapes.{Shape}
use Rattle.sb_core.specs.declared.moment.Moment.{Moment}
use Rattle.sb_containers.specs.declared.container.Cont.{Cont}
use Rattle.sb_containers.specs.base.bundle.declared.bundle.Bundle.{Bundle}
use Rattle.sb_containers.specs.declared.container.CoreLane.{CoreLane}
use Rattle.sb_containers.specs.base.records.Reading.{◌>>=◌}
use Rattle.sb_core.specs.Moments.{lane_at, with_held}
use Rattle.sb_containers.specs.Lanes.{take_from}
use Rattle.sb_core.specs.MomentSteps.{after_take}
use Rattle.sb_containers.specs.Marks.{last_of_first, first_is_closing}
use Rattle.sb_containers.specs.Choices.{first_and_rest}
use Rattle.sb_core.specs.Exactness.{waiting_in, work_in, rows_left_in, gives}
use Rattle.sb_containers.specs.base.SumLemmas.{IsReordered}
use Rattle.sb_core.proofs.exact.Flow.{brought, sum_by-brought}
use Rattle.sb_containers.proofs.Lists.{waiting-take_from}
use Rattle.sb_containers.proofs.Begun.{begun_mark}
use Rattle.sb_core.proofs.exact.Gives.{lane-gives, lane_at-parts, with_lane-is, working_is, sum_by-held_push}

take_from-closing : (number : ℕ) (cs : List Cont) (q : Bundle × List Cont) → take_from number cs ≡ Some q → first_is_closing q.1 ≡ first_is_closing cs
take_from-closing number [] q h = cc
take_from-closing number (c ∷ cs) q h = by_case (list_any (λ b. eqb b.number number) c.waiting) h
  where
    by_case : (a : Bool)
        → cond {A = Option (Bundle × List Cont)} a (first_and_rest (λ b. eqb b.number number) c.waiting >>= λ q. Some (q.0, record c { waiting = q.1; out = c.out ++ number ∷ [] } ∷ cs)) (take_from number cs >>= λ q. Some (q.0, c ∷ q.1)) ≡ Some q
        → first_is_closing q.1 ≡ c.closing
    by_case true h =
        let b = bind_some (first_and_rest (λ b. eqb b.number number) c.waiting) _ q h in
        let same : ◌≡◌ {A = Bundle × List Cont} (b.0.0, record c { waiting = b.0.1; out = c.out ++ number ∷ [] } ∷ cs) q = same_Some _ _ b.2 in
        ap (λ (r : Bundle × List Cont). first_is_closing r.1) (sym same)
    by_case false h =
        let b = bind_some (take_from number cs) _ q h in
        let same : ◌≡◌ {A = Bundle × List Cont} (b.0.0, c ∷ b.0.1) q = same_Some _ _ b.2 in
        ap (λ (r : Bundle × List Cont). first_is_closing r.1) (sym same)

pub take-gives : (plan : Shape) (m m' : Moment) (d : Down) (number : ℕ) → after_take m d number ≡ Some m' → (k : ℕ) (es fs : List KeptRec) → IsReordered es fs → IsReordered (gives plan m k es) (gives plan m' k fs)
take-gives plan m m' d number h k es fs same =
    let a = bind_some (lane_at m d) _ m' h in
    let lane = a.0 in
    let b = bind_some (take_from number lane.conts) _ m' a.2 in
    let at = lane_at-parts m d lane a.1 in
    let is = with_lane-is (with_held (m.held ++ work b.0 ∷ []) m) d at.0 (record lane { conts = b.0.1 }) m' at.1 b.2 in
    subst (λ x. IsReordered (gives plan m k es) (gives plan x k fs)) is (
    lane-gives plan m d at.0 lane (record lane { conts = b.0.1 }) (m.held ++ work b.0 ∷ []) at.1 at.2 (mark lane b.0 b.1) k es fs []
    (λ f. sym (sum_by-held_push f (rows_left_in k) m.held (work b.0) ∙ omega arith))
    (moved lane b.0 b.1)
    (λ _. refl))
  where
    work : Bundle × List Cont → Held
    work q = Work d.node d.lane q.0.epoch q.0.floor number q.0.records false

    mark : (lane : CoreLane) (q : Bundle × List Cont) → take_from number lane.conts ≡ Some q → begun_mark (record lane { conts = q.1 }) ≡ begun_mark lane
    mark lane q took = ap (λ b. last_of_first (cond b (lane.ended + 1) lane.ended) lane.marks) (take_from-closing number lane.conts q took)

    moved : (lane : CoreLane) (q : Bundle × List Cont) → take_from number lane.conts ≡ Some q → (f : KeptRec → ℕ)
        → sum_by f (brought k (record { down = d; records = waiting_in lane })) + (sum_by f (flat_map (work_in k) m.held) + sum_by f es)
        ≡ sum_by f (brought k (record { down = d; records = waiting_in (record lane { conts = q.1 }) })) + (sum_by f (flat_map (work_in k) (m.held ++ work q ∷ [])) + sum_by f fs)
    moved lane q took f =
        let a : sum_by f (brought k (record { down = d; records = waiting_in lane })) ≡ sum_by f (brought k (record { down = d; records = q.0.records })) + sum_by f (brought k (record { down = d; records = waiting_in (record lane { conts = q.1 }) })) =
        sum_by-brought f k d (waiting_in lane) q.0.records (waiting_in (record lane { conts = q.1 })) (waiting-take_from number lane.conts q took) in
        let b : sum_by f (flat_map (work_in k) (m.held ++ work q ∷ [])) ≡ sum_by f (flat_map (work_in k) m.held) + sum_by f (work_in k (work q)) = sum_by-held_push f (work_in k) m.held (work q) in
        let c : sum_by f (work_in k (work q)) ≡ sum_by f (brought k (record { down = d; records = q.0.records })) = working_is f k d q.0.epoch q.0.floor number q.0.records in
        omega (arith, same f)
