-- The rows of sessions: in another order, and at a closing.
use Rattle.std.proofs.Common.{◌≡◌, ℕ, ◌+◌, ◌-◌, ◌≤◌, ◌<◌, Bool, true, cond, eqb, ltb, not, List, [], ◌∷◌, ◌++◌, map, append-nil, sym, refl, ap, ◌∙◌, arith, subst, ⊎_elim}
use Rattle.std.specs.Prelude.{◌||◌, ◌&&◌, nat_lt}
use Rattle.std.specs.List.{filter, list_any, flat_map, sum_by, AllByRecursion}
use Rattle.std.specs.Ordering.{eq_by_cmp}
use Rattle.std.specs.Cmp.{eq_by_cmp_equiv}
use Rattle.std.specs.Set.{is_member}
use Rattle.std.proofs.Math.Bool.{and_comm}
use Rattle.std.proofs.lemmas.Bool.{lt-ltb, ltb-true, ltb-false, eqb-true, cases_lt, and_parts, false_from_ne_true, not-true}
use Rattle.std.proofs.lemmas.List.Elements.{filter_agree, recursion_from_All}
use Rattle.std.proofs.lemmas.Map.Made.{All-is_member}
use Rattle.sb_window.specs.records.declared.item.Record.{Record}
use Rattle.sb_window.specs.records.Keys.{same_key}
use Rattle.sb_window.specs.records.Records.{before}
use Rattle.sb_window.specs.ElementLemmas.{every, All-any, All-map, All-flat_map, filter_all}
use Rattle.sb_window.specs.SumLemmas.{IsReordered, IsReordered-map, IsReordered-filter, sum_by-filter, any_by_count}
use Rattle.sb_window.specs.DistinctLemmas.{distinct-same, any_distinct}
use Rattle.sb_window.specs.declared.keyed_window.KeyedWindow.{KeyedWindow}
use Rattle.sb_window.specs.Windows.{keyed_window_cmp}
use Rattle.sb_window.proofs.Rows.{keyed_windows_total, exact_keyed_windows, same_keyed_window, when, flat_map-agree, row, when-rows}
use Rattle.sb_windowed.specs.declared.aggregate.Agg.{Agg}
use Rattle.sb_windowed.specs.Aggregates.{aggregate_values}
use Rattle.sb_windowed.specs.Sessions.{session_end, session_of, sessions_of, is_in_session, values_in_session, rows_in_session, session_rows, is_session_open}
use Rattle.sb_windowed.specs.Laws.{SessionRowsDoNotDependOnOrder, ClosedSessionsAreFinal, OpenSessionsGiveTheRest}
use Rattle.sb_windowed.proofs.Orderless.{aggregates-orderless}
use Rattle.sb_windowed.proofs.SessionEnds.{has_time, end-is}
use Rattle.sb_windowed.proofs.SessionLaws.{end-after, end-order, end-with, end-open, session-below, session-above}

-- ---- a session is among those of the records just where one is in it
of_record : (gap : ℕ) (l : List Record) (q : KeyedWindow) (r : Record) → eq_by_cmp keyed_window_cmp q (session_of gap l r) ≡ is_in_session gap l q r
of_record gap l q r = (eq_by_cmp_equiv keyed_windows_total).symm q (session_of gap l r) ∙ same_keyed_window (session_of gap l r) q ∙ and_comm (eqb (session_end gap l r) q.end) (same_key r.key q.key)

any_of : (gap : ℕ) (l : List Record) (q : KeyedWindow) (rs : List Record) → list_any (eq_by_cmp keyed_window_cmp q) (map (session_of gap l) rs) ≡ list_any (is_in_session gap l q) rs
any_of gap l q [] = refl
any_of gap l q (r ∷ rs) = λ i. of_record gap l q r i || any_of gap l q rs i

pub any_sessions : (gap : ℕ) (q : KeyedWindow) (l : List Record) → list_any (eq_by_cmp keyed_window_cmp q) (sessions_of gap l) ≡ list_any (is_in_session gap l q) l
any_sessions gap q l = any_distinct keyed_windows_total exact_keyed_windows q (map (session_of gap l) l) ∙ any_of gap l q l

pub All-sessions : (gap : ℕ) (l : List Record) → AllByRecursion (λ q. list_any (is_in_session gap l q) l ≡ true) (sessions_of gap l)
All-sessions gap l =
    every (λ q h. sym (any_sessions gap q l) ∙ h) (sessions_of gap l)
    (recursion_from_All (λ q. is_member (eq_by_cmp keyed_window_cmp) (sessions_of gap l) q ≡ true) (sessions_of gap l) (All-is_member (eq_by_cmp_equiv keyed_windows_total) (sessions_of gap l)))

any_same : {X : Type 0} (p q : X → Bool) (l m : List X) → IsReordered (filter p l) (filter q m) → list_any p l ≡ list_any q m
any_same p q l m h = any_by_count p l ∙ ap (ltb 0) (sym (sum_by-filter (λ _. 1) p l) ∙ h (λ _. 1) ∙ sum_by-filter (λ _. 1) q m) ∙ sym (any_by_count q m)

-- ---- the rows of some times are those of any list whose sessions that end then hold the same records, in any order
pub session_rows-same : (agg : Agg) (gap : ℕ) (t : ℕ → Bool) (l m : List Record) → ((q : KeyedWindow) → t (q.end - 1) ≡ true → IsReordered (filter (is_in_session gap l q) l) (filter (is_in_session gap m q) m))
    → when t (session_rows agg gap l) ≡ when t (session_rows agg gap m)
session_rows-same agg gap t l m same =
    when-rows t (λ q. aggregate_values agg (values_in_session gap l q)) (sessions_of gap l)
    ∙ flat_map-agree (λ q. t (q.end - 1)) (rows_in_session agg gap l) (rows_in_session agg gap m)
    (λ q e. ap (map (row q)) (aggregates-orderless agg (values_in_session gap l q) (values_in_session gap m q) (IsReordered-map (λ r. r.value) (filter (is_in_session gap l q) l) (filter (is_in_session gap m q) m) (same q e)))) (sessions_of gap l)
    ∙ ap (flat_map (rows_in_session agg gap m))
    (distinct-same keyed_windows_total exact_keyed_windows (λ q. t (q.end - 1)) (map (session_of gap l) l) (map (session_of gap m) m)
    (λ q e. any_of gap l q l ∙ any_same (is_in_session gap l q) (is_in_session gap m q) l m (same q e) ∙ sym (any_of gap m q m)))
    ∙ sym (when-rows t (λ q. aggregate_values agg (values_in_session gap m q)) (sessions_of gap m))

-- ---- the law of order
pub session_rows-orderless : SessionRowsDoNotDependOnOrder
session_rows-orderless agg gap l m h =
    sym (filter_all (session_rows agg gap l))
    ∙ session_rows-same agg gap (λ _. true) l m
    (λ q e f. ap (sum_by f) (filter_agree (is_in_session gap l q) (is_in_session gap m q) (λ r. ap (λ e. same_key r.key q.key && eqb e q.end) (end-order gap r.key l m h r.time)) l) ∙ IsReordered-filter (is_in_session gap m q) l m h f)
    ∙ filter_all (session_rows agg gap m)

-- ---- the law of closing
module _ (agg : Agg) (gap : ℕ) (t : ℕ → Bool) (mark : ℕ) (l later : List Record) (some : 1 ≤ gap) (late : AllByRecursion (λ r. mark ≤ r.time) later) where
  pub session_rows-below : ((x : ℕ) → t x ≡ true → x < mark) → when t (session_rows agg gap (l ++ later)) ≡ when t (session_rows agg gap l)
  session_rows-below low = session_rows-same agg gap t (l ++ later) l (λ q e f. ap (sum_by f) (session-below gap mark l later late some q (let k : q.end - 1 < mark = low (q.end - 1) e in omega arith)))

  pub session_rows-above : ((x : ℕ) → t x ≡ true → mark ≤ x) → when t (session_rows agg gap (l ++ later)) ≡ when t (session_rows agg gap (filter (is_session_open gap mark l) l ++ later))
  session_rows-above high = session_rows-same agg gap t (l ++ later) (filter (is_session_open gap mark l) l ++ later) (λ q e f. ap (sum_by f) (in_it q (high (q.end - 1) e)))
    where
      none : (q : KeyedWindow) → q.end ≡ 0 → (m rs : List Record) → filter (is_in_session gap m q) rs ≡ []
      none q z m [] = refl
      none q z m (r ∷ rs) = ap (λ b. cond b (r ∷ filter (is_in_session gap m q) rs) (filter (is_in_session gap m q) rs))
          (false_from_ne_true (is_in_session gap m q r) (λ e. let same : session_end gap m r ≡ q.end = eqb-true (session_end gap m r) q.end (and_parts (same_key r.key q.key) _ e).1 in
          let up : r.time + gap ≤ session_end gap m r = end-after gap r.key m r.time in omega (arith, same, up, some, z)))
          ∙ none q z m rs

      in_it : (q : KeyedWindow) → mark ≤ q.end - 1 → filter (is_in_session gap (l ++ later) q) (l ++ later) ≡ filter (is_in_session gap (filter (is_session_open gap mark l) l ++ later) q) (filter (is_session_open gap mark l) l ++ later)
      in_it q k = ⊎_elim (λ above. session-above gap mark l later late q above)
          (λ not_above. let z : q.end ≡ 0 = omega (arith, k, not_above) in none q z (l ++ later) (l ++ later) ∙ sym (none q z (filter (is_session_open gap mark l) l ++ later) (filter (is_session_open gap mark l) l ++ later)))
          (cases_lt mark q.end)

pub closed_sessions-final : ClosedSessionsAreFinal
closed_sessions-final agg gap mark l later some late = session_rows-below agg gap (λ x. nat_lt x mark) mark l later some (recursion_from_All (λ r. mark ≤ r.time) later late) (λ x h. ltb-true x mark h)

pub open_sessions-rest : OpenSessionsGiveTheRest
open_sessions-rest agg gap mark l later some late = session_rows-above agg gap (λ x. not (nat_lt x mark)) mark l later some (recursion_from_All (λ r. mark ≤ r.time) later late) (λ x h. ltb-false x mark (not-true (ltb x mark) h))

-- ---- the times of rows
-- a session ends at most the gap after the greatest time
pub end-within : (gap bound : ℕ) (l : List Record) (r : Record) → AllByRecursion (λ r. r.time ≤ bound) l → r.time ≤ bound → session_end gap l r ≤ bound + gap
end-within gap bound l r low h = ⊎_elim
    (λ less. let (u, after, before, is) = (end-is gap r.key r.time l).goes_on bound h less in absurd (let k : u ≤ bound = low_time u is in omega (arith, k, after)))
    (λ k. k) (cases_lt (bound + gap) (session_end gap l r))
  where
    low_time : (u : ℕ) → has_time r.key l u ≡ true → u ≤ bound
    low_time u is = All-any (λ r. r.time ≤ bound) (u ≤ bound) (λ s. same_key s.key r.key && eqb s.time u) (λ s k e. let same : s.time ≡ u = eqb-true s.time u (and_parts (same_key s.key r.key) _ e).1 in omega (arith, k, same)) l low is

pub session_rows-times : (agg : Agg) (gap bound : ℕ) (l : List Record) → 1 ≤ gap → AllByRecursion (λ r. r.time ≤ bound) l → AllByRecursion (λ r. r.time + 1 ≤ bound + gap) (session_rows agg gap l)
session_rows-times agg gap bound l some low =
    All-flat_map (λ q. list_any (is_in_session gap l q) l ≡ true) (λ r. r.time + 1 ≤ bound + gap) (rows_in_session agg gap l)
    (λ q h. All-map (λ r. r.time + 1 ≤ bound + gap) (row q) (λ v. last q h) (aggregate_values agg (values_in_session gap l q)))
    (sessions_of gap l) (All-sessions gap l)
  where
    last : (q : KeyedWindow) → list_any (is_in_session gap l q) l ≡ true → (q.end - 1) + 1 ≤ bound + gap
    last q h =
        All-any (λ r. r.time ≤ bound) ((q.end - 1) + 1 ≤ bound + gap) (is_in_session gap l q)
        (λ r k e. let same : session_end gap l r ≡ q.end = eqb-true (session_end gap l r) q.end (and_parts (same_key r.key q.key) _ e).1 in
        let within : session_end gap l r ≤ bound + gap = end-within gap bound l r low k in omega (arith, same, within, some)) l low h

-- ---- what is open stays open
-- where there are more records
pub open-more : (gap mark : ℕ) (l later : List Record) → AllByRecursion (λ r. mark ≤ r.time) later → (r : Record) → is_session_open gap mark l r ≡ true → is_session_open gap mark (l ++ later) r ≡ true
open-more gap mark l later late r h =
    let up : session_end gap l r ≤ session_end gap (l ++ later) r = end-with gap r.key mark l later late r.time in
    lt-ltb mark (session_end gap (l ++ later) r) (omega (arith, up, ltb-true mark (session_end gap l r) h))

-- where what has closed is gone
pub open-fewer : (gap mark : ℕ) (l : List Record) (r : Record) → is_session_open gap mark l r ≡ true → is_session_open gap mark (filter (is_session_open gap mark l) l) r ≡ true
open-fewer gap mark l r h =
    lt-ltb mark (session_end gap (filter (is_session_open gap mark l) l) r)
    (let same : session_end gap (filter (is_session_open gap mark l) l ++ []) r ≡ session_end gap (l ++ []) r = end-open gap mark l [] tt r.key r.time (with_none after) in
    omega (arith, ap (λ m. session_end gap m r) (append-nil (filter (is_session_open gap mark l) l)), same, with_none after))
  where
    after : mark < session_end gap l r
    after = ltb-true mark (session_end gap l r) h

    with_none : mark < session_end gap l r → mark < session_end gap (l ++ []) r
    with_none k = subst (λ m. mark < session_end gap m r) (sym (append-nil l)) k

-- a record from the mark on is in an open session of any list
pub open-late : (gap mark : ℕ) (l : List Record) (r : Record) → 1 ≤ gap → mark ≤ r.time → is_session_open gap mark l r ≡ true
open-late gap mark l r some h = lt-ltb mark (session_end gap l r) (let up : r.time + gap ≤ session_end gap l r = end-after gap r.key l r.time in omega (arith, up, some, h))
