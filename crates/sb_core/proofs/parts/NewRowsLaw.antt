-- The rows that an event adds are later than all that were there: by what it does to the part.
use Rattle.std.proofs.Common.{◌≡◌, ℕ, ◌≤◌, List, [], ◌∷◌, length, Some, sym, refl, ap, subst, ◌∙◌, arith}
use Rattle.std.specs.Prelude.{slice_get, nat_lt}
use Rattle.std.specs.List.{AllByRecursion}
use Rattle.std.proofs.lemmas.Bool.{eqb-true}
use Rattle.std.proofs.lemmas.Option.{same_Some, get_or_from_slice_get, slice_get_past, slice_get_within}
use Rattle.sb_containers.specs.base.NumberLemmas.{bind_some}
use Rattle.sb_containers.specs.base.ElementLemmas.{every, All-passed}
use Rattle.sb_containers.specs.base.SortingLemmas.{All-in_order}
use Rattle.sb_containers.specs.base.records.declared.item.Record.{Record}
use Rattle.sb_containers.specs.base.records.Records.{record_cmp, before}
use Rattle.sb_containers.specs.base.records.declared.element.KeptRec.{KeptRec}
use Rattle.sb_containers.specs.base.pipeline.Shapes.{Shape, source}
use Rattle.sb_containers.specs.base.records.Elements.{all_records}
use Rattle.sb_containers.specs.base.pipeline.Operators.{Operator, operator_at}
use Rattle.sb_containers.specs.base.pipeline.Operators.Operator.{ParDo, Windowed, Sink}
use Rattle.sb_core.specs.declared.moment.Moment.{Moment}
use Rattle.sb_core.specs.declared.moment.Node.{Node}
use Rattle.sb_core.specs.declared.event.Event.TheVariants.{Arrive, Seal, Take, Deliver, Finish, Begin, Pass, End}
use Rattle.sb_core.specs.Bounds.{bound_at}
use Rattle.sb_core.specs.Closings.{rows_at_sink, is_sink}
use Rattle.sb_containers.specs.Lanes.{take_from, closable, with_first_closing}
use Rattle.sb_core.specs.Laws.{written_to}
use Rattle.sb_containers.specs.Marks.{least_begun_mark}
use Rattle.sb_core.specs.Moments.{node_at, no_node, set_lane}
use Rattle.sb_core.specs.NewRows.{AreUnwritten, NewRowsAreLater, HeldAddNoRows}
use Rattle.sb_core.specs.Parts.{Part}
use Rattle.sb_core.specs.Soundness.{IsSound, AreKeptAt}
use Rattle.sb_core.proofs.times.Timely.{sink-last}
use Rattle.sb_containers.proofs.Lists.{cond_is_some}
use Rattle.sb_core.proofs.parts.ByParts.{held-leaves, put_leaves}

pub held-add_no_rows : HeldAddNoRows
held-add_no_rows plan bundle event held node p h = (held-leaves plan bundle event held node p h).1

-- what the sink collects of what it keeps
collected-from : (low mark : ℕ) (es : List KeptRec) → AllByRecursion (λ e. low ≤ e.rec.time) es → AllByRecursion (λ r. low ≤ r.time) (rows_at_sink Sink mark es)
collected-from low mark es all =
    All-in_order (λ r. low ≤ r.time) record_cmp (before mark (all_records es)) (All-passed (λ r. low ≤ r.time) (λ r. low ≤ r.time) (λ r. nat_lt r.time mark) (λ r x y. x) (all_records es) (records_from es all))
  where
    records_from : (es : List KeptRec) → AllByRecursion (λ e. low ≤ e.rec.time) es → AllByRecursion (λ (r : Record). low ≤ r.time) (all_records es)
    records_from [] all = tt
    records_from (e ∷ es) all = (all.0, records_from es all.1)

module _ (plan : Shape) (m : Moment) (sound : IsSound plan m) where
  none : (rows : List Record) → rows ≡ [] → AreUnwritten plan m rows
  none rows is = subst (AreUnwritten plan m) (sym is) tt

  -- what the sink keeps is not written
  sink_kept : AllByRecursion (λ e. written_to plan m ≤ e.rec.time) (node_at m (length plan.steps)).kept
  sink_kept =
      every (λ e h. h.0) (node_at m (length plan.steps)).kept
      (subst (λ o. AreKeptAt (operator_at o) (written_to plan m) (bound_at plan (length plan.steps)) (node_at m (length plan.steps)).kept) (slice_get_past plan.steps (length plan.steps) (omega arith))
      (sound.kept (length plan.steps)))

  -- only the sink collects, and it is the last node
  closing-later : (k mark : ℕ) (node : Node) → slice_get m.nodes k ≡ Some node → AreUnwritten plan m (rows_at_sink (operator_at (slice_get plan.steps k)) mark node.kept)
  closing-later k mark node there = by_operator (operator_at (slice_get plan.steps k)) refl
    where
      by_operator : (o : Operator) → operator_at (slice_get plan.steps k) ≡ o → AreUnwritten plan m (rows_at_sink o mark node.kept)
      by_operator (ParDo op) e = tt
      by_operator (Windowed grouping) e = tt
      by_operator Sink e =
          let last : k ≡ length plan.steps = eqb-true k (length plan.steps) (sink-last plan.steps k (length plan.steps) refl (omega (arith, slice_get_within m.nodes k node there, sound.nodes)) ∙ ap is_sink e) in
          let is : node_at m (length plan.steps) ≡ node = ap (node_at m) (sym last) ∙ get_or_from_slice_get m.nodes k node no_node there in
          collected-from (written_to plan m) mark node.kept (subst (λ (x : Node). AllByRecursion (λ e. written_to plan m ≤ e.rec.time) x.kept) is sink_kept)

pub new-rows_are_later : NewRowsAreLater
new-rows_are_later plan m (Deliver n l number) k node p sound named there h = cc
new-rows_are_later plan m (Finish n l number) k node p sound named there h = cc
new-rows_are_later plan m (Pass n) k node p sound named there h = cc
new-rows_are_later plan m (End n) k node p sound named there h = cc
new-rows_are_later plan m (Arrive stream records) k node p sound named there h =
    let b = bind_some (source plan stream) _ p h in
    let c = bind_some (slice_get node.lanes b.0.lane) _ p b.2 in
    let d = cond_is_some _ _ p c.2 in
    none plan m sound p.rows (put_leaves node b.0.lane _ _ records [] p d.1).1
new-rows_are_later plan m (Seal stream mark) k node p sound named there h =
    let b = bind_some (source plan stream) _ p h in
    let c = bind_some (slice_get node.lanes b.0.lane) _ p b.2 in
    let d = cond_is_some _ _ p c.2 in
    none plan m sound p.rows (ap (λ (p : Part). p.rows) (sym (same_Some _ p d.1)))
new-rows_are_later plan m (Take n l number) k node p sound named there h =
    let b = bind_some (slice_get node.lanes l) _ p h in
    let c = bind_some (take_from number b.0.conts) _ p b.2 in
    none plan m sound p.rows (ap (λ (p : Part). p.rows) (sym (same_Some _ p c.2)))
new-rows_are_later plan m (Begin n l) k node p sound named there h =
    let b = bind_some (slice_get node.lanes l) _ p h in
    let c = bind_some (closable b.0.ended b.0.conts) _ p b.2 in
    let d = cond_is_some _ _ p c.2 in
    let mark : ℕ = least_begun_mark (set_lane l (record b.0 { conts = with_first_closing b.0.conts }) node).lanes in
    let added : p.rows ≡ rows_at_sink (operator_at (slice_get plan.steps n)) mark node.kept = ap (λ (p : Part). p.rows) (sym (same_Some _ p d.1)) in
    subst (AreUnwritten plan m) (sym (added ∙ ap (λ n. rows_at_sink (operator_at (slice_get plan.steps n)) mark node.kept) (same_Some n k named))) (closing-later plan m sound k mark node there)
