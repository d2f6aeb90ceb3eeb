-- What an aggregate gives once a part is absorbed, and once windows are closed.
use Rattle.std.proofs.Common.{◌≡◌, ℕ, ◌≤◌, Bool, true, false, cond, List, [], ◌∷◌, ◌++◌, append-nil, append_assoc, sym, refl, ap, ◌∙◌}
use Rattle.std.specs.Prelude.{◌||◌, nat_lt, sum_by, None}
use Rattle.std.specs.List.{flat_map, list_any, AllByRecursion}
use Rattle.std.proofs.lemmas.Bool.{le-ltb, ltb-false}
use Rattle.std.proofs.lemmas.List.{map-append}
use Rattle.sb_runs.specs.records.declared.element.KeptRec.{KeptRec}
use Rattle.sb_runs.specs.records.declared.item.Record.{Record}
use Rattle.sb_runs.specs.records.Elements.{all_records}
use Rattle.sb_runs.specs.records.Records.{sorted_records, at_least}
use Rattle.sb_runs.specs.records.Reorderings.{IsReordered}
use Rattle.sb_runs.proofs.records.Sums.{IsReordered-append, any_reordered}
use Rattle.sb_runs.specs.window.declared.keyed_window.KeyedWindow.{KeyedWindow}
use Rattle.sb_runs.specs.window.Spacing.{Spacing}
use Rattle.sb_runs.specs.window.Gatherings.{joined_value, rows_of_entries}
use Rattle.sb_runs.specs.window.Groupings.{Closes}
use Rattle.sb_runs.specs.window.Aggregations.{rows_by}
use Rattle.sb_runs.proofs.window.Closing.{is_between, closes-between}
use Rattle.sb_runs.proofs.window.Rows.{when}
use Rattle.sb_windowed.specs.declared.aggregate.Agg.{Agg}
use Rattle.sb_windowed.specs.Aggregates.{aggregate_values, aggregate_rows}
use Rattle.sb_aggregate.specs.Partials.{PartialValues, partial_values, join_values, final_values}
use Rattle.sb_aggregate.specs.Groups.{HasPartials, HasPartialsFrom}
use Rattle.sb_runs.specs.Runs.{IsRun, found, found_in}
use Rattle.sb_windowed.proofs.Orderless.{aggregate_rows-orderless}
use Rattle.sb_aggregate.proofs.PartialValues.{final-partial}
use Rattle.sb_aggregate.proofs.EndsPassed.{partial_from-append, partials-closed, partials-open}
use Rattle.sb_runs.proofs.RunRows.{rows-when}

-- one list more after others
pub flat-more : (ls : List (List Record)) (l : List Record) → flat_map (λ l. l) (ls ++ l ∷ []) ≡ flat_map (λ l. l) ls ++ l
flat-more [] l = append-nil l
flat-more (k ∷ ls) l = ap (λ m. k ++ m) (flat-more ls l) ∙ sym (append_assoc k (flat_map (λ l. l) ls) l)

-- where no time of elements is below a mark, none of the records is that they hold in another order
pub late-reordered : (mark : ℕ) (l m : List Record) → IsReordered l m → AllByRecursion (λ r. mark ≤ r.time) m → AllByRecursion (λ r. mark ≤ r.time) l
late-reordered mark l m same late = from_none l (any_reordered (λ r. nat_lt r.time mark) l m same ∙ to_none m late)
  where
    to_none : (l : List Record) → AllByRecursion (λ r. mark ≤ r.time) l → list_any (λ r. nat_lt r.time mark) l ≡ false
    to_none [] late = refl
    to_none (r ∷ l) late = (λ i. le-ltb r.time mark late.0 i || to_none l late.1 i)

    from_none : (l : List Record) → list_any (λ r. nat_lt r.time mark) l ≡ false → AllByRecursion (λ r. mark ≤ r.time) l
    from_none [] none = tt
    from_none (r ∷ l) none = by_case (nat_lt r.time mark) refl none (from_none l)
      where
        by_case : (b : Bool) → nat_lt r.time mark ≡ b → (b || list_any (λ r. nat_lt r.time mark) l) ≡ false → (list_any (λ r. nat_lt r.time mark) l ≡ false → AllByRecursion (λ r. mark ≤ r.time) l) → AllByRecursion (λ r. mark ≤ r.time) (r ∷ l)
        by_case true e h rest = cc
        by_case false e h rest = (ltb-false r.time mark e, rest h)

-- ---- absorbing
pub partials-absorbed : (agg : Agg) (windows : Spacing) (mark : ℕ) (absorbed records : List Record) (runs later : List PartialValues) (run : PartialValues) → HasPartialsFrom mark agg windows absorbed runs → HasPartials agg windows records run
    → AllByRecursion (λ r. mark ≤ r.time) records
    → ((q : KeyedWindow) → found_in (join_values agg) later q ≡ joined_value (join_values agg) (found_in (join_values agg) runs q) (found run q)) → HasPartialsFrom mark agg windows (absorbed ++ records) later
partials-absorbed agg windows mark absorbed records runs later run has has_more late join q =
    join q ∙ (λ i. joined_value (join_values agg) (has q i) (has_more q i)) ∙ partial_from-append agg windows mark absorbed records late q

pub rows-absorbed : (agg : Agg) (windows : Spacing) (mark : ℕ) (absorbed records : List Record) (es l : List KeptRec) → IsReordered records (all_records es)
    → at_least mark (aggregate_rows agg windows ((absorbed ++ records) ++ all_records l)) ≡ at_least mark (aggregate_rows agg windows (absorbed ++ all_records (es ++ l)))
rows-absorbed agg windows mark absorbed records es l same = ap (at_least mark) (aggregate_rows-orderless agg windows ((absorbed ++ records) ++ all_records l) (absorbed ++ all_records (es ++ l)) alike)
  where
    alike : IsReordered ((absorbed ++ records) ++ all_records l) (absorbed ++ all_records (es ++ l))
    alike f =
        ap (sum_by f) (append_assoc absorbed records (all_records l))
        ∙ IsReordered-append absorbed absorbed (records ++ all_records l) (all_records es ++ all_records l) (λ f. refl) (IsReordered-append records (all_records es) (all_records l) (all_records l) same (λ f. refl)) f
        ∙ ap (λ rs. sum_by f (absorbed ++ rs)) (sym (map-append (λ (e : KeptRec). e.rec) es l))

-- ---- closing
module _ (agg : Agg) (windows : Spacing) (closed mark : ℕ) (within : closed ≤ mark) (absorbed : List Record) (runs : List PartialValues) (has : HasPartialsFrom closed agg windows absorbed runs) where
  pub partials-left : (later : List PartialValues) → ((q : KeyedWindow) → found_in (join_values agg) later q ≡ cond (nat_lt mark q.end) (found_in (join_values agg) runs q) None) → HasPartialsFrom mark agg windows absorbed later
  partials-left later at q = at q ∙ ap (λ o. cond (nat_lt mark q.end) o None) (has q) ∙ partials-open agg windows closed mark within absorbed q

  pub closes-with : (run : PartialValues) (rows : List Record) → IsRun run → ((q : KeyedWindow) → found run q ≡ cond (nat_lt mark q.end) None (found_in (join_values agg) runs q))
      → rows ≡ sorted_records (rows_of_entries (final_values agg) run)
      → Closes mark (λ l. at_least closed (aggregate_rows agg windows (absorbed ++ all_records l))) rows (λ l. at_least mark (aggregate_rows agg windows (absorbed ++ all_records l)))
  closes-with run rows ordered at are =
      closes-between (aggregate_values agg) windows closed mark within absorbed rows
      (are ∙ ap sorted_records (
      rows-when (partial_values agg) (final_values agg) windows (is_between closed mark) absorbed run ordered
      (λ q. at q ∙ ap (λ o. cond (nat_lt mark q.end) None o) (has q) ∙ partials-closed agg windows closed mark within absorbed q)
      ∙ (λ i. when (is_between closed mark) (rows_by (λ vs. final-partial agg vs i) windows absorbed))))
