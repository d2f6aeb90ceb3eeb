-- Each kind of grouping is a window operator: an aggregation of windows, sessions, a join.
use Rattle.std.proofs.Common.{◌≡◌, ℕ, ◌+◌, ◌≤◌, Bool, true, false, not, cond, eqb, ltb, List, [], ◌∷◌, ◌++◌, sym, refl, ap, ◌∙◌, arith, append-nil}
use Rattle.std.specs.Prelude.{nat_lt, All}
use Rattle.std.specs.List.{filter, sum_by, AllByRecursion}
use Rattle.std.proofs.lemmas.Bool.{le-ltb, ltb-false}
use Rattle.std.proofs.lemmas.List.{nil_from_length, map-append}
use Rattle.std.proofs.lemmas.List.Sums.{sum_by-cons, length-filter}
use Rattle.std.proofs.lemmas.List.Elements.{filter-append, All-from_recursion}
use Rattle.sb_containers.specs.base.records.declared.item.Record.{Record}
use Rattle.sb_containers.specs.base.records.Records.{before, at_least}
use Rattle.sb_containers.specs.base.SumLemmas.{IsReordered, IsReordered-map, IsReordered-filter}
use Rattle.sb_containers.specs.base.window.Spacing.{Spacing, AreWindows}
use Rattle.sb_containers.specs.base.RowLemmas.{is_open_at, rows_by-same, rows_by-before}
use Rattle.sb_containers.specs.base.windowed.declared.aggregate.Agg.{Agg}
use Rattle.sb_containers.specs.base.windowed.Aggregates.{aggregate_values, aggregate_rows}
use Rattle.sb_containers.specs.base.windowed.Sessions.{session_rows, is_session_open}
use Rattle.sb_containers.specs.base.OrderlessLemmas.{aggregate_rows-orderless}
use Rattle.sb_containers.specs.base.SessionRowLemmas.{session_rows-orderless, closed_sessions-final, open_sessions-rest, open-fewer, open-more, open-late, session_rows-times}
use Rattle.sb_containers.specs.base.AggregateTimeLemmas.{aggregate_rows-times}
use Rattle.sb_containers.specs.base.windowed.declared.join.Combine.{Combine}
use Rattle.sb_containers.specs.base.windowed.Joins.{join_rows}
use Rattle.sb_containers.specs.base.PairLemmas.{join_rows-same, join_rows-reordered, joins-before}
use Rattle.sb_containers.specs.base.JoinTimeLemmas.{join_rows-times}
use Rattle.sb_containers.specs.base.records.declared.element.KeptRec.{KeptRec}
use Rattle.sb_containers.specs.base.windowed.declared.session.TheConstants.{MAX_GAP}
use Rattle.sb_containers.specs.base.records.Elements.{on_lane, of_lane, all_records}
use Rattle.sb_containers.specs.base.pipeline.Operators.{WindowOperator, operator_rows}
use Rattle.sb_containers.specs.base.pipeline.Operators.WindowOperator.{Aggregated, Sessions, Joined}
use Rattle.sb_containers.specs.base.OnLaneLemmas.{All-all_records, All-of_lane}
use Rattle.sb_core.specs.Closings.{still_open}
use Rattle.sb_containers.proofs.Lists.{filter_swap}
use Rattle.sb_core.proofs.windows.WindowOperators.{AreFrom, IsGrouping}
use Rattle.sb_core.proofs.windows.OpenWindows.{same-open, ends-later}

-- ---- elements and their records
pub all_records-append : (es fs : List KeptRec) → all_records (es ++ fs) ≡ all_records es ++ all_records fs
all_records-append = map-append (λ e. e.rec)

pub all_records-on_lane : (l : ℕ) (rs : List Record) → all_records (on_lane l rs) ≡ rs
all_records-on_lane l [] = refl
all_records-on_lane l (r ∷ rs) = ap (λ rs. r ∷ rs) (all_records-on_lane l rs)

pub all_records-filter : (p : Record → Bool) (es : List KeptRec) → all_records (filter (λ e. p e.rec) es) ≡ filter p (all_records es)
all_records-filter p [] = refl
all_records-filter p (e ∷ es) =
    elim (p e.rec) as (λ b. all_records (cond b (e ∷ filter (λ e. p e.rec) es) (filter (λ e. p e.rec) es)) ≡ cond b (e.rec ∷ filter p (all_records es)) (filter p (all_records es))) [
      | true ↦ ap (λ l. e.rec ∷ l) (all_records-filter p es)
      | false ↦ all_records-filter p es
    ]

-- the records of the elements that pass, and of what comes
records-left : (p : Record → Bool) (es later : List KeptRec) → all_records (filter (λ e. p e.rec) es ++ later) ≡ filter p (all_records es) ++ all_records later
records-left p es later = all_records-append (filter (λ e. p e.rec) es) later ∙ ap (λ l. l ++ all_records later) (all_records-filter p es)

of_lane-append : (l : ℕ) (a b : List KeptRec) → of_lane l (a ++ b) ≡ of_lane l a ++ of_lane l b
of_lane-append l a b = ap all_records (filter-append (λ e. eqb e.lane l) a b) ∙ all_records-append (filter (λ e. eqb e.lane l) a) (filter (λ e. eqb e.lane l) b)

-- ---- what comes late, and what is before a mark
-- 1 for a record, or an element, before the mark
abbrev pub early : ℕ → Record → ℕ
early mark r = cond (ltb r.time mark) 1 0

abbrev pub early_one : ℕ → KeptRec → ℕ
early_one mark e = cond (ltb e.rec.time mark) 1 0

-- where none is early, none is before the mark
pub none_before : (mark : ℕ) (coming : List Record) → sum_by (early mark) coming ≡ 0 → before mark coming ≡ []
none_before mark coming h = nil_from_length (before mark coming) (length-filter (λ r. nat_lt r.time mark) coming ∙ h)

-- and all are from it on
pub none_early : (mark : ℕ) (es : List KeptRec) → sum_by (early_one mark) es ≡ 0 → AreFrom mark es
none_early mark [] h = tt
none_early mark (e ∷ es) h =
    let k : sum_by (early_one mark) (e ∷ es) ≡ cond (ltb e.rec.time mark) 1 0 + sum_by (early_one mark) es = sum_by-cons (early_one mark) e es in
    (ltb-false e.rec.time mark (is_false (ltb e.rec.time mark) (sum_by (early_one mark) es) (sym k ∙ h)), none_early mark es (omega (arith, k, h)))
  where
    is_false : (b : Bool) (n : ℕ) → cond b 1 0 + n ≡ 0 → b ≡ false
    is_false true n h = absurd (omega (arith, h))
    is_false false n h = refl

-- what comes from the mark on adds nothing before it
before-later : (mark : ℕ) (l later : List Record) → AllByRecursion (λ r. mark ≤ r.time) later → before mark (l ++ later) ≡ before mark l
before-later mark l later from = filter-append (λ r. nat_lt r.time mark) l later ∙ ap (λ m. before mark l ++ m) (none later from) ∙ append-nil (before mark l)
  where
    none : (rs : List Record) → AllByRecursion (λ r. mark ≤ r.time) rs → before mark rs ≡ []
    none [] from = refl
    none (r ∷ rs) from = ap (λ b. cond b (r ∷ before mark rs) (before mark rs)) (le-ltb r.time mark from.0) ∙ none rs from.1

-- ---- the law of order, of any grouping
pub grouped-order : (g : WindowOperator) (es fs : List KeptRec) → IsReordered es fs → IsReordered (operator_rows g es) (operator_rows g fs)
grouped-order (Aggregated agg windows) es fs h f = ap (sum_by f) (aggregate_rows-orderless agg windows (all_records es) (all_records fs) (IsReordered-map (λ e. e.rec) es fs h))
grouped-order (Sessions agg gap) es fs h f = ap (sum_by f) (session_rows-orderless agg gap (all_records es) (all_records fs) (IsReordered-map (λ e. e.rec) es fs h))
grouped-order (Joined combine windows) es fs h f = join_rows-reordered combine windows (of_lane 0 es) (of_lane 0 fs) (of_lane 1 es) (of_lane 1 fs) (in_lane 0) (in_lane 1) f
  where
    in_lane : (l : ℕ) → IsReordered (of_lane l es) (of_lane l fs)
    in_lane l = IsReordered-map (λ e. e.rec) (filter (λ e. eqb e.lane l) es) (filter (λ e. eqb e.lane l) fs) (IsReordered-filter (λ e. eqb e.lane l) es fs h)

-- ---- an aggregation of windows
pub aggregated : (agg : Agg) (windows : Spacing) → AreWindows windows → IsGrouping (Aggregated agg windows)
aggregated agg windows are = record {
  order = grouped-order (Aggregated agg windows);
  final = λ mark es later from.
      ap (λ l. before mark (aggregate_rows agg windows l)) (all_records-append es later)
      ∙ rows_by-before (aggregate_values agg) windows mark (all_records es ++ all_records later)
      ∙ ap (λ l. before mark (aggregate_rows agg windows l)) (before-later mark (all_records es) (all_records later) (All-all_records (λ r. mark ≤ r.time) later from))
      ∙ sym (rows_by-before (aggregate_values agg) windows mark (all_records es));
  rest = λ mark es later from.
      ap (λ l. at_least mark (aggregate_rows agg windows l)) (all_records-append es later)
      ∙ rows_by-same (aggregate_values agg) windows (λ x. not (nat_lt x mark)) (all_records es ++ all_records later) (filter (is_open_at windows mark) (all_records es) ++ all_records later)
      (same-open windows mark (all_records es) (all_records later))
      ∙ ap (λ l. at_least mark (aggregate_rows agg windows l)) (sym (records-left (is_open_at windows mark) es later));
  stays = λ mark es e is. is;
  among_more = λ mark es later from e is. is;
  late = λ mark es e from. ends-later windows mark e.rec.time are from;
  within = λ bound es low. aggregate_rows-times agg windows bound (all_records es) (All-all_records (λ r. r.time ≤ bound) es low);
  most = are.most_size;
}

-- ---- sessions
pub sessions : (agg : Agg) (gap : ℕ) → 1 ≤ gap → gap ≤ MAX_GAP → IsGrouping (Sessions agg gap)
sessions agg gap some most = record {
  order = grouped-order (Sessions agg gap);
  final = λ mark es later from.
      ap (λ l. before mark (session_rows agg gap l)) (all_records-append es later)
      ∙ closed_sessions-final agg gap mark (all_records es) (all_records later) some (all_from mark later from);
  rest = λ mark es later from.
      ap (λ l. at_least mark (session_rows agg gap l)) (all_records-append es later)
      ∙ open_sessions-rest agg gap mark (all_records es) (all_records later) some (all_from mark later from)
      ∙ ap (λ l. at_least mark (session_rows agg gap l)) (sym (records-left (is_session_open gap mark (all_records es)) es later));
  stays = λ mark es e is. ap (λ l. is_session_open gap mark l e.rec) (all_records-filter (is_session_open gap mark (all_records es)) es) ∙ open-fewer gap mark (all_records es) e.rec is;
  among_more = λ mark es later from e is.
      ap (λ l. is_session_open gap mark l e.rec) (all_records-append es later)
      ∙ open-more gap mark (all_records es) (all_records later) (All-all_records (λ r. mark ≤ r.time) later from) e.rec is;
  late = λ mark es e from. open-late gap mark (all_records es) e.rec some from;
  within = λ bound es low. session_rows-times agg gap bound (all_records es) some (All-all_records (λ r. r.time ≤ bound) es low);
  most = most;
}
  where
    all_from : (mark : ℕ) (later : List KeptRec) → AreFrom mark later → All (λ r. mark ≤ r.time) (all_records later)
    all_from mark later from = All-from_recursion (λ r. mark ≤ r.time) (all_records later) (All-all_records (λ r. mark ≤ r.time) later from)

-- ---- a join
-- what of a lane stays open, and what comes
lane-left : (combine : Combine) (windows : Spacing) (mark l : ℕ) (es later : List KeptRec) → of_lane l (still_open (Joined combine windows) mark es ++ later) ≡ filter (is_open_at windows mark) (of_lane l es) ++ of_lane l later
lane-left combine windows mark l es later =
    of_lane-append l (still_open (Joined combine windows) mark es) later
    ∙ ap (λ a. a ++ of_lane l later) (
    ap all_records (filter_swap (λ (e : KeptRec). eqb e.lane l) (λ e. is_open_at windows mark e.rec) es)
    ∙ all_records-filter (is_open_at windows mark) (filter (λ e. eqb e.lane l) es))

pub joined : (combine : Combine) (windows : Spacing) → AreWindows windows → IsGrouping (Joined combine windows)
joined combine windows are = record {
  order = grouped-order (Joined combine windows);
  final = λ mark es later from.
      (λ i. before mark (join_rows combine windows (of_lane-append 0 es later i) (of_lane-append 1 es later i)))
      ∙ joins-before combine windows mark (of_lane 0 es ++ of_lane 0 later) (of_lane 1 es ++ of_lane 1 later)
      ∙ (λ i. before mark (join_rows combine windows (no_more mark 0 es later from i) (no_more mark 1 es later from i)))
      ∙ sym (joins-before combine windows mark (of_lane 0 es) (of_lane 1 es));
  rest = λ mark es later from.
      (λ i. at_least mark (join_rows combine windows (of_lane-append 0 es later i) (of_lane-append 1 es later i)))
      ∙ join_rows-same combine windows (λ x. not (nat_lt x mark)) (of_lane 0 es ++ of_lane 0 later) (filter (is_open_at windows mark) (of_lane 0 es) ++ of_lane 0 later) (of_lane 1 es ++ of_lane 1 later) (filter (is_open_at windows mark) (of_lane 1 es) ++ of_lane 1 later)
      (same-open windows mark (of_lane 0 es) (of_lane 0 later)) (same-open windows mark (of_lane 1 es) (of_lane 1 later))
      ∙ sym (λ i. at_least mark (join_rows combine windows (lane-left combine windows mark 0 es later i) (lane-left combine windows mark 1 es later i)));
  stays = λ mark es e is. is;
  among_more = λ mark es later from e is. is;
  late = λ mark es e from. ends-later windows mark e.rec.time are from;
  within = λ bound es low. join_rows-times combine windows bound (of_lane 0 es) (of_lane 1 es) (All-of_lane (λ r. r.time ≤ bound) 0 es low);
  most = are.most_size;
}
  where
    no_more : (mark l : ℕ) (es later : List KeptRec) → AreFrom mark later → before mark (of_lane l es ++ of_lane l later) ≡ before mark (of_lane l es)
    no_more mark l es later from = before-later mark (of_lane l es) (of_lane l later) (All-of_lane (λ r. mark ≤ r.time) l later from)
