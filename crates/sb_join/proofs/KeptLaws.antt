-- What a join gives, when records are added and when windows are closed.
use Rattle.std.proofs.Common.{◌≡◌, ℕ, ℤ, ◌+◌, ◌-◌, ◌%◌, ◌≤◌, ◌<◌, Bool, true, false, not, cond, eqb, List, map, [], ◌∷◌, ◌++◌, None, append-nil, append_assoc, subst, sym, refl, ap, ◌∙◌, arith}
use Rattle.std.specs.Prelude.{◌||◌, nat_lt}
use Rattle.std.specs.List.{filter, list_any, sum_by, AllByRecursion}
use Rattle.std.specs.Option.{is_some}
use Rattle.std.proofs.lemmas.Bool.{ltb-true, ltb-false, le-ltb, not-true, and_parts, eqb-true}
use Rattle.std.proofs.lemmas.List.{map-append}
use Rattle.std.proofs.lemmas.List.Elements.{filter-append}
use Rattle.std.proofs.lemmas.List.Filters.{sum_by-filter_both}
use Rattle.std.proofs.lemmas.List.Sums.{sum_by-append}
use Rattle.sb_runs.specs.Runs.{IsRun, found}
use Rattle.sb_runs.specs.records.declared.element.KeptRec.{KeptRec}
use Rattle.sb_runs.specs.records.declared.item.Record.{Record}
use Rattle.sb_runs.specs.records.Elements.{on_lane, of_lane, all_records}
use Rattle.sb_runs.specs.records.Keys.{same_key}
use Rattle.sb_runs.specs.records.Orders.{IsAscending}
use Rattle.sb_runs.specs.records.Records.{record_cmp, sorted_records, before, at_least}
use Rattle.sb_runs.specs.records.Reorderings.{IsReordered}
use Rattle.sb_runs.proofs.records.Elements.{every, All-any, All-join}
use Rattle.sb_runs.proofs.records.OnLanes.{All-of_lane}
use Rattle.sb_runs.proofs.records.Sorting.{records_total, in_order-ascending, sorted-unique, All-in_order, IsReordered-in_order}
use Rattle.sb_runs.proofs.records.Sums.{IsReordered-append, none_pass}
use Rattle.sb_runs.specs.window.declared.keyed_window.KeyedWindow.{KeyedWindow}
use Rattle.sb_runs.specs.window.Gatherings.{joined_value, rows_of_entries}
use Rattle.sb_runs.specs.window.Groupings.{IsFrom, Adds, Closes}
use Rattle.sb_runs.specs.window.Spacing.{Spacing}
use Rattle.sb_runs.specs.window.Windows.{window_ends, is_in, values_in}
use Rattle.sb_runs.proofs.window.Closing.{none_late}
use Rattle.sb_runs.proofs.window.Marks.{from-reordered, before-all, at_least-all, All-at_least}
use Rattle.sb_runs.proofs.window.Multiples.{All-window_ends}
use Rattle.sb_windowed.specs.declared.join.Combine.{Combine}
use Rattle.sb_windowed.specs.declared.join.Side.{Side}
use Rattle.sb_windowed.specs.declared.join.Side.TheVariants.{Left, Right}
use Rattle.sb_join.specs.Entries.{Sided, of_side, combined_values, values_at, kept_at, entries_of, IsOpen, AreKept, HasPart}
use Rattle.sb_windowed.specs.Joins.{join_rows}
use Rattle.sb_join.specs.Kept.{JoinState, OneSided, IsLike, lane_of}
use Rattle.sb_join.specs.Orderless.{gives-orderless}
use Rattle.sb_join.proofs.Fixed.{values_in-append}
use Rattle.sb_join.proofs.KeptRows.{rows-times, join_rows-from, join_rows-kept}
use Rattle.sb_join.proofs.KeptValues.{AreOpen, entries-found, all-found-windows, values_in-kept}
use Rattle.sb_windowed.proofs.Pairs.{join_rows-agree, join_rows-alike}
use Rattle.sb_join.proofs.Sides.{append, values_at-joined, is_some-joined, none-at}

-- the times of records of a lane, and of what is made of a bundle
pub from-records : (mark side : ℕ) (records : List Record) (es : List KeptRec) → IsReordered es (on_lane side records) → IsFrom mark es → AllByRecursion (λ r. mark ≤ r.time) records
from-records mark side records es same from = each records (from-reordered mark es (on_lane side records) same from)
  where
    each : (rs : List Record) → IsFrom mark (on_lane side rs) → AllByRecursion (λ r. mark ≤ r.time) rs
    each [] all = tt
    each (r ∷ rs) all = (all.0, each rs all.1)

-- no element of a join that has closed at 0 comes too early
pub fresh-all : (l : List Record) → at_least 0 l ≡ l
fresh-all l = at_least-all 0 l (each l)
  where
    each : (l : List Record) → AllByRecursion (λ r. 0 ≤ r.time) l
    each [] = tt
    each (r ∷ l) = (omega arith, each l)

of_lane-append : (lane : ℕ) (l m : List KeptRec) → of_lane lane (l ++ m) ≡ of_lane lane l ++ of_lane lane m
of_lane-append lane l m = ap all_records (filter-append (λ e. eqb e.lane lane) l m) ∙ map-append (λ e. e.rec) (filter (λ e. eqb e.lane lane) l) (filter (λ e. eqb e.lane lane) m)

-- ---- what is kept
-- a window in which a record from the mark on lies is open
pub record-open : (windows : Spacing) (mark : ℕ) (q : KeyedWindow) (records : List Record) → AllByRecursion (λ r. mark ≤ r.time) records → list_any (is_in windows q) records ≡ true → IsOpen windows mark q
record-open windows mark q records from some =
    All-any (λ r. mark ≤ r.time) (IsOpen windows mark q) (is_in windows q)
    (λ r late is. All-any (λ e. (r.time < e) × (e ≤ r.time + windows.size) × (e % windows.every ≡ 0)) (IsOpen windows mark q) (λ e. eqb e q.end)
    (λ e within same. let is : e ≡ q.end = eqb-true e q.end same in record { late = omega (arith, within.0, late, is); whole = ap (λ n. n % windows.every) (sym is) ∙ within.2 })
    (window_ends windows r.time) (All-window_ends windows r.time) (and_parts (same_key r.key q.key) _ is).1)
    records from some

module _ (windows : Spacing) (mark : ℕ) (side : Side) (records : List Record) (runs later : List (List (KeyedWindow × Sided))) (run : List (KeyedWindow × Sided)) (has : HasPart windows side records run) (join : (q : KeyedWindow) → kept_at later q ≡ joined_value append (kept_at runs q) (found run q)) where
  -- the windows of a run that is added are open
  pub added-kept : AllByRecursion (λ r. mark ≤ r.time) records → AreKept windows mark runs → AreKept windows mark later
  added-kept from kept q some = by_case (is_some (kept_at runs q)) refl (sym (is_some-joined (kept_at runs q) (found run q)) ∙ ap is_some (sym (join q)) ∙ some)
    where
      by_case : (b : Bool) → is_some (kept_at runs q) ≡ b → (b || is_some (found run q)) ≡ true → IsOpen windows mark q
      by_case true e h = kept q e
      by_case false e h = record-open windows mark q records from (has.within q h)

  -- the values that are kept are followed by those of the records
  pub added-values : (s : Side) (q : KeyedWindow) → IsReordered (values_at s (found (entries_of later) q)) (values_at s (found (entries_of runs) q) ++ values_in windows q (of_lane (lane_of s) (on_lane (lane_of side) records)))
  added-values s q f =
      ap (λ o. sum_by f (values_at s o)) (entries-found later q ∙ join q)
      ∙ ap (sum_by f) (values_at-joined s (kept_at runs q) (found run q))
      ∙ IsReordered-append (values_at s (kept_at runs q)) (values_at s (kept_at runs q)) (values_at s (found run q)) (values_in windows q (of_lane (lane_of s) (on_lane (lane_of side) records))) (λ g. refl) (has.values s q) f
      ∙ sym (ap (λ o. sum_by f (values_at s o ++ values_in windows q (of_lane (lane_of s) (on_lane (lane_of side) records)))) (entries-found runs q))

-- what stays is open at the mark of a closing
pub stays-kept : (windows : Spacing) (floor mark : ℕ) (runs later : List (List (KeyedWindow × Sided))) → AreKept windows floor runs
    → ((q : KeyedWindow) → kept_at later q ≡ cond (nat_lt mark q.end) (kept_at runs q) None) → AreKept windows mark later
stays-kept windows floor mark runs later kept at q some = by_case (nat_lt mark q.end) refl (ap is_some (sym (at q)) ∙ some)
  where
    by_case : (b : Bool) → nat_lt mark q.end ≡ b → is_some (cond b (kept_at runs q) None) ≡ true → IsOpen windows mark q
    by_case true e h = record { late = ltb-true mark q.end e; whole = (kept q h).whole }
    by_case false e h = cc

module _ (combine : Combine) (windows : Spacing) (fixed : windows.size ≡ windows.every) where
  -- what a join with these entries gives, from a mark on
  abbrev pub gives_of : ℕ → List (KeyedWindow × Sided) → List KeptRec → List Record
  gives_of mark es l = at_least mark (join_rows combine windows (rows_of_entries (of_side Left) es ++ of_lane 0 l) (rows_of_entries (of_side Right) es ++ of_lane 1 l))

  -- ---- records are added
  module _ (mark : ℕ) (part : List KeptRec) (es fs : List (KeyedWindow × Sided)) (run : IsRun es) (ends_late : AreOpen windows mark es) (later_run : IsRun fs) (later_ends : AreOpen windows mark fs)
      (gathers : (s : Side) (q : KeyedWindow) → IsReordered (values_at s (found fs q)) (values_at s (found es q) ++ values_in windows q (of_lane (lane_of s) part))) where
    values-more : (s : Side) (q : KeyedWindow) (l : List KeptRec)
        → IsReordered (values_in windows q (rows_of_entries (of_side s) fs ++ of_lane (lane_of s) l)) (values_in windows q (rows_of_entries (of_side s) es ++ of_lane (lane_of s) (part ++ l)))
    values-more s q l f =
        ap (sum_by f) (values_in-append windows q (rows_of_entries (of_side s) fs) (of_lane (lane_of s) l) ∙ ap (λ vs. vs ++ values_in windows q (of_lane (lane_of s) l)) (values_in-kept windows fixed mark fs later_run later_ends s q))
        ∙ IsReordered-append (values_at s (found fs q)) (values_at s (found es q) ++ values_in windows q (of_lane (lane_of s) part)) (values_in windows q (of_lane (lane_of s) l)) (values_in windows q (of_lane (lane_of s) l)) (gathers s q) (λ g. refl) f
        ∙ ap (sum_by f) (
        ap (λ vs. (vs ++ values_in windows q (of_lane (lane_of s) part)) ++ values_in windows q (of_lane (lane_of s) l)) (sym (values_in-kept windows fixed mark es run ends_late s q))
        ∙ append_assoc (values_in windows q (rows_of_entries (of_side s) es)) (values_in windows q (of_lane (lane_of s) part)) (values_in windows q (of_lane (lane_of s) l))
        ∙ ap (λ vs. values_in windows q (rows_of_entries (of_side s) es) ++ vs) (sym (values_in-append windows q (of_lane (lane_of s) part) (of_lane (lane_of s) l)))
        ∙ sym (values_in-append windows q (rows_of_entries (of_side s) es) (of_lane (lane_of s) part ++ of_lane (lane_of s) l))
        ∙ ap (λ rs. values_in windows q (rows_of_entries (of_side s) es ++ rs)) (sym (of_lane-append (lane_of s) part l)))

    gives-more : (l : List KeptRec) → IsReordered (gives_of mark fs l) (gives_of mark es (part ++ l))
    gives-more l =
        join_rows-alike combine windows (λ x. not (nat_lt x mark)) (rows_of_entries (of_side Left) fs ++ of_lane 0 l) (rows_of_entries (of_side Left) es ++ of_lane 0 (part ++ l)) (rows_of_entries (of_side Right) fs ++ of_lane 1 l) (rows_of_entries (of_side Right) es ++ of_lane 1 (part ++ l))
        (λ q e. values-more Left q l) (λ q e. values-more Right q l)

    pub adds : (elements : List KeptRec) → IsReordered elements part → Adds mark (gives_of mark es) (gives_of mark fs) elements
    adds elements same l from f =
        gives-more l f
        ∙ gives-orderless (record { combine = combine; windows = windows; left = rows_of_entries (of_side Left) es; right = rows_of_entries (of_side Right) es; left_mark = 0; right_mark = 0; closed = mark; is_spent = true })
        (part ++ l) (elements ++ l) (IsReordered-append part elements l l (λ g. sym (same g)) (λ g. refl)) f

  -- ---- windows are closed
  module _ (floor mark : ℕ) (rising : floor ≤ mark) (es fs cs : List (KeyedWindow × Sided)) (rows : List Record) (run : IsRun es) (ends_late : AreOpen windows floor es) (later_run : IsRun fs) (closed_run : IsRun cs)
      (at_closed : (q : KeyedWindow) → found cs q ≡ cond (nat_lt mark q.end) None (found es q)) (at_open : (q : KeyedWindow) → found fs q ≡ cond (nat_lt mark q.end) (found es q) None)
      (in_order : rows ≡ sorted_records (rows_of_entries (combined_values combine) cs)) where
    stays-open : AreOpen windows mark fs
    stays-open q some = by_case (nat_lt mark q.end) refl (ap is_some (sym (at_open q)) ∙ some)
      where
        by_case : (b : Bool) → nat_lt mark q.end ≡ b → is_some (cond b (found es q) None) ≡ true → IsOpen windows mark q
        by_case true e h = record { late = ltb-true mark q.end e; whole = (ends_late q h).whole }
        by_case false e h = cc

    closes-within : (q : KeyedWindow) → is_some (found cs q) ≡ true → (IsOpen windows floor q) × (q.end ≤ mark)
    closes-within q some = by_case (nat_lt mark q.end) refl (ap is_some (sym (at_closed q)) ∙ some)
      where
        by_case : (b : Bool) → nat_lt mark q.end ≡ b → is_some (cond b None (found es q)) ≡ true → (IsOpen windows floor q) × (q.end ≤ mark)
        by_case true e h = cc
        by_case false e h = (ends_late q h, ltb-false mark q.end e)

    closed-open : AreOpen windows floor cs
    closed-open q some = (closes-within q some).0

    early-rows : (values : Sided → List ℤ) → AllByRecursion (λ r. r.time < mark) (rows_of_entries values cs)
    early-rows values = rows-times (λ t. t < mark) values cs (all-found-windows (λ q. q.end - 1 < mark) cs (λ q some. let h = closes-within q some in omega (arith, h.0.late, h.1)))

    floor-rows : AllByRecursion (λ r. floor ≤ r.time) (rows_of_entries (of_side Left) es)
    floor-rows = rows-times (λ t. floor ≤ t) (of_side Left) es (all-found-windows (λ q. floor ≤ q.end - 1) es (λ q some. let h = ends_late q some in omega (arith, h.late)))

    module _ (l : List KeptRec) (from : IsFrom mark l) where
      abbrev all : Side → List Record
      all s = rows_of_entries (of_side s) es ++ of_lane (lane_of s) l

      lane-from : (lane : ℕ) → AllByRecursion (λ r. mark ≤ r.time) (of_lane lane l)
      lane-from lane = All-of_lane (λ r. mark ≤ r.time) lane l from

      -- before the mark there is what is closed
      values-before : (s : Side) (q : KeyedWindow) → q.end - 1 < mark → values_in windows q (all s) ≡ values_in windows q (rows_of_entries (of_side s) cs)
      values-before s q low =
          let none : values_in windows q (of_lane (lane_of s) l) ≡ [] =
          ap (λ rs. map (λ (r : Record). r.value) rs) (none_pass (is_in windows q) (of_lane (lane_of s) l) (none_late windows mark q low (of_lane (lane_of s) l) (lane-from (lane_of s)))) in
          let ended : nat_lt mark q.end ≡ false = le-ltb mark q.end (omega (arith, low)) in
          values_in-append windows q (rows_of_entries (of_side s) es) (of_lane (lane_of s) l)
          ∙ (λ i. values_in-kept windows fixed floor es run ends_late s q i ++ none i)
          ∙ append-nil (values_at s (found es q))
          ∙ sym (ap (values_at s) (at_closed q ∙ ap (λ b. cond b None (found es q)) ended))
          ∙ sym (values_in-kept windows fixed floor cs closed_run closed-open s q)

      rows-before : before mark (join_rows combine windows (all Left) (all Right)) ≡ rows_of_entries (combined_values combine) cs
      rows-before =
          join_rows-agree combine windows (λ x. nat_lt x mark) (all Left) (rows_of_entries (of_side Left) cs) (all Right) (rows_of_entries (of_side Right) cs)
          (λ q e. values-before Left q (ltb-true (q.end - 1) mark e)) (λ q e. values-before Right q (ltb-true (q.end - 1) mark e))
          ∙ ap (before mark) (join_rows-kept combine windows fixed floor cs closed_run closed-open)
          ∙ before-all mark (rows_of_entries (combined_values combine) cs) (early-rows (combined_values combine))

      -- from the mark on there is what stays
      values-stay : (s : Side) (q : KeyedWindow) → mark ≤ q.end - 1 → values_at s (found es q) ≡ values_at s (found fs q)
      values-stay s q late = by_case (nat_lt mark q.end) refl
        where
          by_case : (b : Bool) → nat_lt mark q.end ≡ b → values_at s (found es q) ≡ values_at s (found fs q)
          by_case true e = sym (ap (values_at s) (at_open q ∙ ap (λ b. cond b (found es q) None) e))
          by_case false e =
              let ended : q.end ≤ mark = ltb-false mark q.end e in
              none-at s (found es q) (λ some. let h = ends_late q some in omega (arith, h.late, late, ended))
              ∙ sym (ap (values_at s) (at_open q ∙ ap (λ b. cond b (found es q) None) e))

      values-after : (s : Side) (q : KeyedWindow) → mark ≤ q.end - 1 → values_in windows q (all s) ≡ values_in windows q (rows_of_entries (of_side s) fs ++ of_lane (lane_of s) l)
      values-after s q late =
          values_in-append windows q (rows_of_entries (of_side s) es) (of_lane (lane_of s) l)
          ∙ ap (λ vs. vs ++ values_in windows q (of_lane (lane_of s) l)) (values_in-kept windows fixed floor es run ends_late s q ∙ values-stay s q late ∙ sym (values_in-kept windows fixed mark fs later_run stays-open s q))
          ∙ sym (values_in-append windows q (rows_of_entries (of_side s) fs) (of_lane (lane_of s) l))

      rows-after : at_least mark (join_rows combine windows (all Left) (all Right)) ≡ gives_of mark fs l
      rows-after =
          join_rows-agree combine windows (λ x. not (nat_lt x mark)) (all Left) (rows_of_entries (of_side Left) fs ++ of_lane 0 l) (all Right) (rows_of_entries (of_side Right) fs ++ of_lane 1 l)
          (λ q e. values-after Left q (is_late q e)) (λ q e. values-after Right q (is_late q e))
        where
          is_late : (q : KeyedWindow) → not (nat_lt (q.end - 1) mark) ≡ true → mark ≤ q.end - 1
          is_late q e = ltb-false (q.end - 1) mark (not-true (nat_lt (q.end - 1) mark) e)

      gives-parts : IsReordered (gives_of floor es l) (rows ++ gives_of mark fs l)
      gives-parts f =
          ap (sum_by f) (at_least-all floor (join_rows combine windows (all Left) (all Right)) (join_rows-from combine windows floor (all Left) (all Right) (All-join (λ r. floor ≤ r.time) (rows_of_entries (of_side Left) es) (of_lane 0 l) floor-rows (every (λ r h. omega (arith, h, rising)) (of_lane 0 l) (lane-from 0)))))
          ∙ sym (sum_by-filter_both (λ r. nat_lt r.time mark) (λ r. not (nat_lt r.time mark)) (λ r. refl) f (join_rows combine windows (all Left) (all Right)))
          ∙ (λ i. (ap (sum_by f) rows-before ∙ sym (ap (sum_by f) in_order ∙ IsReordered-in_order record_cmp (rows_of_entries (combined_values combine) cs) f)) i + sum_by f (rows-after i))
          ∙ sym (sum_by-append f rows (gives_of mark fs l))

    pub closes : Closes mark (gives_of floor es) rows (gives_of mark fs)
    closes = record {
      in_order = sorted-unique rows rows (subst (λ (l : List Record). IsAscending record_cmp l) (sym in_order) (in_order-ascending records_total (rows_of_entries (combined_values combine) cs))) (λ f. refl);
      low = subst (λ (l : List Record). AllByRecursion (λ r. r.time < mark) l) (sym in_order) (All-in_order (λ r. r.time < mark) record_cmp (rows_of_entries (combined_values combine) cs) (early-rows (combined_values combine)));
      same = λ l from. gives-parts l from;
      high = λ l from. All-at_least mark (join_rows combine windows (rows_of_entries (of_side Left) fs ++ of_lane 0 l) (rows_of_entries (of_side Right) fs ++ of_lane 1 l));
    }

-- ---- what a call may rely on where the join is not spent
unspent : (s t : JoinState) → s ≡ t → s.is_spent ≡ false → t.is_spent ≡ true → ⊥
unspent s t same fresh e = let k : true ≡ false = sym e ∙ ap (λ (x : JoinState). x.is_spent) (sym same) ∙ fresh in cc

-- the mark of a closing is not below the last one
pub rising-mark : (s t : JoinState) (mark : ℕ) → s ≡ t → s.is_spent ≡ false → ((t.is_spent ≡ true → ⊥) → t.closed ≤ mark) → s.closed ≤ mark
rising-mark s t mark same fresh from = subst (λ (x : JoinState). x.closed ≤ mark) (sym same) (from (unspent s t same fresh))

-- what is absorbed has no record before it
pub part-from : (s t : JoinState) (side : ℕ) (records : List Record) → s ≡ t → s.is_spent ≡ false → ((t.is_spent ≡ true → ⊥) → (es : List KeptRec) × IsReordered es (on_lane side records) × IsFrom t.closed es) → AllByRecursion (λ r. s.closed ≤ r.time) records
part-from s t side records same fresh from =
    let given = from (unspent s t same fresh) in
    subst (λ (x : JoinState). AllByRecursion (λ r. x.closed ≤ r.time) records) (sym same) (from-records t.closed side records given.0 given.1 given.2)

-- the run of a part that fits has the values of its records, by the windows of the join
pub part-values : (s t : JoinState) (p q : OneSided) (run : List (KeyedWindow × Sided)) → s ≡ t → s.is_spent ≡ false → p ≡ q → ((t.is_spent ≡ true → ⊥) → IsLike t q) → HasPart p.windows p.side p.records run → HasPart s.windows q.side q.records run
part-values s t p q run same fresh is fits has =
    let windows : p.windows ≡ s.windows = ap (λ (x : OneSided). x.windows) is ∙ fits (unspent s t same fresh) ∙ sym (ap (λ (x : JoinState). x.windows) same) in
    subst (λ (x : OneSided). HasPart s.windows x.side x.records run) is (subst (λ (w : Spacing). HasPart w p.side p.records run) windows has)
