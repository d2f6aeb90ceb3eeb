-- The rows of a lawful and exact moment.
use Rattle.std.proofs.Common.{◌≡◌, ℕ, ◌+◌, ◌<◌, cond, List, [], ◌∷◌, ◌++◌, length, sym, refl, ap, ◌∙◌, arith, zero-add, append-nil}
use Rattle.std.specs.Prelude.{nat_lt, sum_by}
use Rattle.std.specs.List.{slice_get, AllByRecursion}
use Rattle.std.proofs.lemmas.Bool.{lt-ltb}
use Rattle.std.proofs.lemmas.List.Sums.{sum_by-append}
use Rattle.std.proofs.lemmas.List.Elements.{filter-append}
use Rattle.std.proofs.lemmas.Option.{slice_get_past}
use Rattle.sb_containers.specs.base.records.declared.item.Record.{Record}
use Rattle.sb_containers.specs.base.records.declared.element.KeptRec.{KeptRec}
use Rattle.sb_containers.specs.base.records.declared.item.Stream.{Stream}
use Rattle.sb_containers.specs.base.pipeline.Shapes.{Shape}
use Rattle.sb_core.specs.declared.moment.Moment.{Moment}
use Rattle.sb_containers.specs.base.records.Records.{record_cmp, before}
use Rattle.sb_containers.specs.base.records.Orders.{IsAscending}
use Rattle.sb_containers.specs.base.pipeline.Operators.{operator_at}
use Rattle.sb_containers.specs.base.records.Elements.{all_records}
use Rattle.sb_containers.specs.base.pipeline.Flow.{arrivals_at, from_streams, sent_from}
use Rattle.sb_containers.specs.base.pipeline.Results.{output_of, rows_below}
use Rattle.sb_containers.specs.Marks.{least_begun_mark}
use Rattle.sb_core.specs.Exactness.{gives, gives_by, final, rest, IsAdmissible, IsExact}
use Rattle.sb_core.specs.Moments.{node_at}
use Rattle.sb_containers.specs.base.SumLemmas.{sum_by-map, IsReordered-filter}
use Rattle.sb_core.proofs.exact.Flow.{flow_in_time}
use Rattle.sb_core.proofs.windows.Groupings.{early, early_one, none_before}
use Rattle.sb_core.proofs.times.Timely.{late, IsTimely, gives_in_time, rest_in_time, streams_in_time}
use Rattle.sb_containers.specs.base.SortingLemmas.{sorted-unique}

before-all : (w : ℕ) (l : List Record) → AllByRecursion (λ r. r.time < w) l → before w l ≡ l
before-all w [] all = refl
before-all w (r ∷ l) all = (λ i. cond (lt-ltb r.time w all.0 i) (r ∷ before w l) (before w l)) ∙ ap (λ m. r ∷ m) (before-all w l all.1)

-- Where the sink's rows are sorted and below its mark, and what it keeps is not, the rows are those of the plan below
-- the mark, whatever comes.
pub rows-are : (plan : Shape) (m : Moment) (fed coming : Stream → List Record) → IsTimely plan m → IsExact plan m fed → IsAdmissible plan m coming
    → IsAscending record_cmp m.rows → AllByRecursion (λ r. r.time < least_begun_mark (node_at m (length plan.steps)).lanes) m.rows
    → sum_by (early_one (least_begun_mark (node_at m (length plan.steps)).lanes)) (node_at m (length plan.steps)).kept ≡ 0
    → m.rows ≡ rows_below (least_begun_mark (node_at m (length plan.steps)).lanes) plan (λ s. fed s ++ coming s)
rows-are plan m fed coming timely exact ok up low kept =
    sorted-unique m.rows (before w (output_of plan (λ s. fed s ++ coming s))) up (λ f.
    ap (sum_by f) (sym written) ∙ IsReordered-filter (λ r. nat_lt r.time w) (final plan m coming) (output_of plan (λ s. fed s ++ coming s)) (exact coming ok) f)
  where
    n : ℕ
    n = length plan.steps

    w : ℕ
    w = least_begun_mark (node_at m (length plan.steps)).lanes

    es : List KeptRec
    es = arrivals_at (length plan.steps) (sent_from (gives plan m) 0 plan.steps (from_streams plan coming))

    in_time : sum_by (late m (length plan.steps)) (arrivals_at (length plan.steps) (sent_from (gives plan m) 0 plan.steps (from_streams plan coming))) ≡ 0
    in_time = flow_in_time plan (gives plan m) (gives plan m) (λ _ _. []) (λ _. []) (late m) (gives_in_time plan m timely) 0 plan.steps (λ j. ap (slice_get plan.steps) (zero-add j)) (from_streams plan coming) (streams_in_time plan m timely coming ok) (length plan.steps)

    left : List KeptRec
    left = (node_at m (length plan.steps)).kept ++ rest (length plan.steps) (node_at m (length plan.steps)) m.held (arrivals_at (length plan.steps) (sent_from (gives plan m) 0 plan.steps (from_streams plan coming)))

    late_left : sum_by (early_one (least_begun_mark (node_at m (length plan.steps)).lanes)) ((node_at m (length plan.steps)).kept ++ rest (length plan.steps) (node_at m (length plan.steps)) m.held (arrivals_at (length plan.steps) (sent_from (gives plan m) 0 plan.steps (from_streams plan coming)))) ≡ 0
    late_left =
        sum_by-append (early_one (least_begun_mark (node_at m (length plan.steps)).lanes)) (node_at m (length plan.steps)).kept (rest (length plan.steps) (node_at m (length plan.steps)) m.held (arrivals_at (length plan.steps) (sent_from (gives plan m) 0 plan.steps (from_streams plan coming))))
        ∙ (λ i. kept i + rest_in_time plan m timely (length plan.steps) (arrivals_at (length plan.steps) (sent_from (gives plan m) 0 plan.steps (from_streams plan coming))) in_time i)

    sink : final plan m coming ≡ m.rows ++ all_records ((node_at m (length plan.steps)).kept ++ rest (length plan.steps) (node_at m (length plan.steps)) m.held (arrivals_at (length plan.steps) (sent_from (gives plan m) 0 plan.steps (from_streams plan coming))))
    sink = ap (λ o. gives_by (operator_at o) (length plan.steps) (node_at m (length plan.steps)) m.held m.rows (arrivals_at (length plan.steps) (sent_from (gives plan m) 0 plan.steps (from_streams plan coming)))) (slice_get_past plan.steps (length plan.steps) (omega arith))

    written : before (least_begun_mark (node_at m (length plan.steps)).lanes) (final plan m coming) ≡ m.rows
    written =
        ap (before (least_begun_mark (node_at m (length plan.steps)).lanes)) sink
        ∙ filter-append (λ r. nat_lt r.time (least_begun_mark (node_at m (length plan.steps)).lanes)) m.rows _
        ∙ (λ i. before-all (least_begun_mark (node_at m (length plan.steps)).lanes) m.rows low i ++ none_before (least_begun_mark (node_at m (length plan.steps)).lanes) (all_records ((node_at m (length plan.steps)).kept ++ rest (length plan.steps) (node_at m (length plan.steps)) m.held (arrivals_at (length plan.steps) (sent_from (gives plan m) 0 plan.steps (from_streams plan coming))))) (sum_by-map (early (least_begun_mark (node_at m (length plan.steps)).lanes)) (λ (e : KeptRec). e.rec) ((node_at m (length plan.steps)).kept ++ rest (length plan.steps) (node_at m (length plan.steps)) m.held (arrivals_at (length plan.steps) (sent_from (gives plan m) 0 plan.steps (from_streams plan coming)))) ∙ late_left) i)
        ∙ append-nil m.rows
