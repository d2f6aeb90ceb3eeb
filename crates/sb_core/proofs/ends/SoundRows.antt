-- The rows of a sound and exact moment.
use Rattle.sb_core.proofs.sound.Orderly.{lawful_of, tidy_of}
use Rattle.std.proofs.Common.{◌≡◌, ℕ, ◌+◌, ◌≤◌, true, false, List, [], ◌∷◌, ◌++◌, length, Some, None, sym, refl, ap, subst, ◌∙◌, arith, append-nil}
use Rattle.std.specs.Prelude.{sum_by}
use Rattle.std.specs.List.{AllByRecursion}
use Rattle.std.proofs.lemmas.List.Sums.{sum_by-cons}
use Rattle.std.proofs.lemmas.Option.{slice_get_past}
use Rattle.std.proofs.lemmas.List.Elements.{All-nil}
use Rattle.sb_containers.specs.base.records.declared.element.KeptRec.{KeptRec}
use Rattle.sb_containers.specs.base.pipeline.Shapes.{Shape}
use Rattle.sb_core.specs.declared.moment.Moment.{Moment}
use Rattle.sb_core.specs.declared.held.Held.{Held}
use Rattle.sb_core.specs.declared.held.Held.TheVariants.{Work, Close}
use Rattle.sb_containers.specs.base.pipeline.Plans.{IsPlan}
use Rattle.sb_containers.specs.base.pipeline.Results.{rows_below}
use Rattle.sb_containers.specs.base.pipeline.Operators.{operator_at}
use Rattle.sb_containers.specs.base.pipeline.Operators.Operator.{Sink}
use Rattle.sb_containers.specs.Marks.{least_begun_mark, first_is_closing}
use Rattle.sb_core.specs.Moments.{node_at, floor_at}
use Rattle.sb_containers.specs.Lanes.{closable}
use Rattle.sb_containers.specs.base.records.declared.item.TheConstants.{END_MARK, MAX_TIME}
use Rattle.sb_containers.specs.LaneOrder.{cont_at}
use Rattle.sb_core.specs.Rest.{IsAtRest, RowsAtRest, RowsAtTheEnd}
use Rattle.sb_core.specs.Bounds.{bound_at}
use Rattle.sb_core.specs.Holdings.{IsHeld}
use Rattle.sb_core.specs.Soundness.{AreKeptAt, IsSound}
use Rattle.sb_core.specs.Laws.{RunsGiveTheRows, records_fed_by, RowsAreThePlans, RowsAreAll, IsDone}
use Rattle.sb_core.proofs.windows.Groupings.{early_one}
use Rattle.sb_core.proofs.times.Timely.{zero_early}
use Rattle.sb_core.proofs.ends.AtRest.{closes-low, from_one}
use Rattle.sb_core.proofs.ends.NoneLeft.{settles-all}
use Rattle.sb_core.proofs.times.LawfulTimely.{lawful-timely}
use Rattle.sb_core.proofs.ends.LawfulRows.{rows-are}
use Rattle.sb_core.proofs.sound.FirstMoment.{runs-are_sound}

pub rows-are_the_plans : RowsAreThePlans
rows-are_the_plans plan m fed coming sound exact ok =
    rows-are plan m fed coming (lawful-timely plan m (lawful_of sound)) exact ok (tidy_of sound).sorted (tidy_of sound).written
    (late (node_at m (length plan.steps)).kept (subst (λ o. AreKeptAt (operator_at o) (least_begun_mark (node_at m (length plan.steps)).lanes) (bound_at plan (length plan.steps)) (node_at m (length plan.steps)).kept) (slice_get_past plan.steps (length plan.steps) (omega arith)) ((tidy_of sound).kept (length plan.steps))))
  where
    late : (es : List KeptRec) → AreKeptAt Sink (least_begun_mark (node_at m (length plan.steps)).lanes) (bound_at plan (length plan.steps)) es → sum_by (early_one (least_begun_mark (node_at m (length plan.steps)).lanes)) es ≡ 0
    late [] all = refl
    late (e ∷ es) all = sum_by-cons (early_one (least_begun_mark (node_at m (length plan.steps)).lanes)) e es ∙ (λ i. zero_early (least_begun_mark (node_at m (length plan.steps)).lanes) e.rec.time all.0.0 i + late es all.1 i)

-- ---- where nothing is left
module _ (plan : Shape) (is_plan : IsPlan plan) (m : Moment) (sound : IsSound plan m) (done : IsDone plan m) where
  -- what is held would be in a container, so the moment is at rest
  at_rest : IsAtRest m
  at_rest = record {
    none_held = none m.held sound.holds;
    none_waits = λ d lane at. subst (AllByRecursion (λ c. c.waiting ≡ [])) (sym (done.none_left d lane at)) tt;
    none_closes = λ d lane at. ap (closable lane.ended) (done.none_left d lane at);
  }
    where
      none : (hs : List Held) → AllByRecursion (IsHeld plan m) hs → hs ≡ []
      none [] all = refl
      none (Work n l epoch floor number records delivered ∷ hs) all =
          let k : None ≡ Some all.0.cont = ap (cont_at epoch) (sym (done.none_left (record { node = n; lane = l }) all.0.lane all.0.there)) ∙ all.0.of_epoch in cc
      none (Close n l epoch serial floor mark rows passed ∷ hs) all =
          let k : false ≡ true = ap first_is_closing (sym (done.none_left (record { node = n; lane = l }) all.0.lane all.0.there)) ∙ all.0.closing in cc

  -- each node has closed up to the last mark
  pub all_closed : (k : ℕ) → k ≤ length plan.steps → least_begun_mark (node_at m k).lanes ≡ END_MARK
  all_closed k b = let one = from_one plan is_plan m sound at_rest k b in sym one.3 ∙ done.sealed one.0 one.1 one.2

pub rows-are_all : RowsAreAll
rows-are_all plan is_plan m fed sound exact done =
    rows-are_the_plans plan m fed (λ s. []) sound exact (λ s d is. All-nil (λ r. (floor_at m d ≤ r.time) × (r.time ≤ MAX_TIME)))
    ∙ (λ i. rows_below (all_closed plan is_plan m sound done (length plan.steps) (omega arith) i) plan (λ s. append-nil (fed s) i))

pub runs-give_the_rows : RunsGiveTheRows
runs-give_the_rows plan is_plan bundle low high events m h =
    let k = runs-are_sound plan is_plan bundle low high events m h in
    ((λ coming ok. rows-are_the_plans plan m (records_fed_by events (λ s. [])) coming k.0 k.1 ok), (λ done. rows-are_all plan is_plan m (records_fed_by events (λ s. [])) k.0 k.1 done))

-- ---- at rest
pub rows-at_rest : RowsAtRest
rows-at_rest plan is_plan m fed coming sound exact rest ok =
    rows-are_the_plans plan m fed coming sound exact ok ∙ ap (λ n. rows_below n plan (λ s. fed s ++ coming s)) (closes-low plan is_plan m sound rest)

pub rows-at_the_end : RowsAtTheEnd
rows-at_the_end plan is_plan m fed sound exact rest sealed = rows-are_all plan is_plan m fed sound exact (settles-all plan is_plan m sound rest sealed)
