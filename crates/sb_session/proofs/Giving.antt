-- What a grouping of sessions gives after an absorb, and after a closing.
use Rattle.std.proofs.Common.{◌≡◌, ℕ, ◌+◌, ◌-◌, ◌≤◌, ◌<◌, Bool, cond, not, true, Option, Some, List, [], ◌∷◌, ◌++◌, append_assoc, append-nil, subst, sym, refl, ap, ◌∙◌, arith}
use Rattle.std.specs.Prelude.{filter, sum_by, nat_lt}
use Rattle.std.specs.List.{list_any, AllByRecursion}
use Rattle.std.proofs.lemmas.Bool.{le-ltb, eqb-true, ltb-true, and_parts}
use Rattle.std.proofs.lemmas.List.{map-append}
use Rattle.std.proofs.lemmas.List.Sums.{sum_by-append}
use Rattle.std.proofs.lemmas.List.Elements.{All-from_recursion}
use Rattle.std.proofs.lemmas.List.Filters.{sum_by-filter_both}
use Rattle.sb_windowed.specs.records.declared.element.KeptRec.{KeptRec}
use Rattle.sb_windowed.specs.records.declared.item.Record.{Record}
use Rattle.sb_windowed.specs.records.Elements.{all_records, on_lane}
use Rattle.sb_windowed.specs.records.Keys.{same_key}
use Rattle.sb_windowed.specs.records.Orders.{IsAscending}
use Rattle.sb_windowed.specs.records.Records.{record_cmp, before, at_least}
use Rattle.sb_windowed.specs.records.Reorderings.{IsReordered}
use Rattle.sb_windowed.proofs.records.Earlier.{before-low}
use Rattle.sb_windowed.proofs.records.Elements.{every, All-any, All-flat_map, All-join, All-map, All-passed, All-anything}
use Rattle.sb_windowed.proofs.records.OnLanes.{All-all_records, all_records-on_lane}
use Rattle.sb_windowed.proofs.records.Sorting.{sorted-unique}
use Rattle.sb_windowed.proofs.records.Sums.{IsReordered-append}
use Rattle.sb_windowed.specs.window.Groupings.{IsFrom, Adds, Closes}
use Rattle.sb_windowed.specs.window.declared.keyed_window.KeyedWindow.{KeyedWindow}
use Rattle.sb_windowed.proofs.window.Rows.{row}
use Rattle.sb_windowed.specs.declared.aggregate.Agg.{Agg}
use Rattle.sb_windowed.specs.Aggregates.{aggregate_values}
use Rattle.sb_windowed.specs.Sessions.{session_end, sessions_of, is_in_session, is_session_open, values_in_session, rows_in_session, session_rows}
use Rattle.sb_windowed.proofs.SessionRows.{All-sessions, session_rows-orderless, closed_sessions-final, open_sessions-rest, open-fewer, open-more, open-late}
use Rattle.sb_session.specs.Kept.{kept_of}
use Rattle.sb_session.specs.SessionStates.{records_in}
use Rattle.sb_session.specs.declared.open.OpenSessions.{OpenSessions}

-- the rows of the sessions of what is kept and of what comes
abbrev pub gives_of : Agg → ℕ → List Record → List KeptRec → List Record
gives_of agg gap kept l = session_rows agg gap (kept ++ all_records l)

-- ---- records that differ in order alone give the same
same-given : (agg : Agg) (gap : ℕ) (a b c : List Record) → IsReordered a b → session_rows agg gap (a ++ c) ≡ session_rows agg gap (b ++ c)
same-given agg gap a b c h = session_rows-orderless agg gap (a ++ c) (b ++ c) (IsReordered-append a b c c h (λ f. refl))

-- what is absorbed is kept, in any order
pub gives-adds : (agg : Agg) (gap closed : ℕ) (kept later part : List Record) (es : List KeptRec) → IsReordered later (kept ++ part) → es ≡ on_lane 0 part
    → Adds closed (gives_of agg gap kept) (gives_of agg gap later) es
gives-adds agg gap closed kept later part es is stands l late f = ap (sum_by f) (
    same-given agg gap later (kept ++ part) (all_records l) is
    ∙ ap (session_rows agg gap) (append_assoc kept part (all_records l) ∙ ap (λ rs. kept ++ rs) (sym (map-append (λ (e : KeptRec). e.rec) es l ∙ ap (λ rs. rs ++ all_records l) (ap all_records (stands ∙ sym (append-nil (on_lane 0 part))) ∙ all_records-on_lane 0 part)))))

-- ---- a closing
-- the rows of open sessions come from the mark on
module _ (agg : Agg) (gap mark : ℕ) where
  rows-open : (m : List Record) → AllByRecursion (λ r. is_session_open gap mark m r ≡ true) m → AllByRecursion (λ r. mark ≤ r.time) (session_rows agg gap m)
  rows-open m all =
      All-flat_map (λ q. list_any (is_in_session gap m q) m ≡ true) (λ r. mark ≤ r.time) (rows_in_session agg gap m)
      (λ q some. All-map (λ r. mark ≤ r.time) (row q) (λ v. from q some) (aggregate_values agg (values_in_session gap m q)))
      (sessions_of gap m) (All-sessions gap m)
    where
      from : (q : KeyedWindow) → list_any (is_in_session gap m q) m ≡ true → mark ≤ q.end - 1
      from q some =
          All-any (λ r. is_session_open gap mark m r ≡ true) (mark ≤ q.end - 1) (is_in_session gap m q)
          (λ r open_ is. let same : session_end gap m r ≡ q.end = eqb-true (session_end gap m r) q.end (and_parts (same_key r.key q.key) _ is).1 in
          omega (arith, same, ltb-true mark (session_end gap m r) open_)) m all some

  -- what stays and what comes from the mark on is open
  all-open : 1 ≤ gap → (kept later : List Record) → AllByRecursion (λ r. mark ≤ r.time) later
      → AllByRecursion (λ r. is_session_open gap mark (filter (is_session_open gap mark kept) kept ++ later) r ≡ true) (filter (is_session_open gap mark kept) kept ++ later)
  all-open some kept later late =
      All-join _ open_ later
      (All-passed (λ _. Unit {0}) (λ r. is_session_open gap mark (open_ ++ later) r ≡ true) (is_session_open gap mark kept) (λ r _ h. open-more gap mark open_ later late r (open-fewer gap mark kept r h)) kept (All-anything kept))
      (every (λ r h. open-late gap mark (open_ ++ later) r some h) later late)
    where
      open_ : List Record
      open_ = filter (is_session_open gap mark kept) kept

  -- rows from the mark on alone
  at_least-all : (rows : List Record) → AllByRecursion (λ r. mark ≤ r.time) rows → at_least mark rows ≡ rows
  at_least-all [] all = refl
  at_least-all (r ∷ rows) all = (λ i. passing (not (le-ltb r.time mark all.0 i))) ∙ ap (λ rows. r ∷ rows) (at_least-all rows all.1)
    where
      passing : Bool → List Record
      passing b = cond b (r ∷ at_least mark rows) (at_least mark rows)

  -- a closing that gives the rows of the sessions that end by the mark, in order, and keeps the records of the others
  pub gives-closes : 1 ≤ gap → (kept later rows : List Record) → rows ≡ before mark (session_rows agg gap kept) → IsAscending record_cmp rows
      → IsReordered later (filter (is_session_open gap mark kept) kept) → Closes mark (gives_of agg gap kept) rows (gives_of agg gap later)
  gives-closes some kept later rows rows_are up later_is = record {
    in_order = sorted-unique rows rows up (λ f. refl);
    low = subst (λ (l : List Record). AllByRecursion (λ r. r.time < mark) l) (sym rows_are) (before-low mark (session_rows agg gap kept));
    same = λ l late f.
        sym (sum_by-filter_both (λ r. nat_lt r.time mark) (λ r. not (nat_lt r.time mark)) (λ r. refl) f (gives_of agg gap kept l))
        ∙ (λ i. sum_by f (closed l late i) + sum_by f (left l late i))
        ∙ sym (sum_by-append f rows (gives_of agg gap later l));
    high = λ l late. subst (λ (m : List Record). AllByRecursion (λ r. mark ≤ r.time) m) (sym (by_order l)) (rows-open (open_ ++ all_records l) (all-open some kept (all_records l) (from l late)));
  }
    where
      open_ : List Record
      open_ = filter (is_session_open gap mark kept) kept

      from : (l : List KeptRec) → IsFrom mark l → AllByRecursion (λ r. mark ≤ r.time) (all_records l)
      from l late = All-all_records (λ r. mark ≤ r.time) l late

      by_order : (l : List KeptRec) → gives_of agg gap later l ≡ session_rows agg gap (open_ ++ all_records l)
      by_order l = same-given agg gap later open_ (all_records l) later_is

      closed : (l : List KeptRec) → IsFrom mark l → before mark (gives_of agg gap kept l) ≡ rows
      closed l late = closed_sessions-final agg gap mark kept (all_records l) some (All-from_recursion (λ r. mark ≤ r.time) (all_records l) (from l late)) ∙ sym rows_are

      left : (l : List KeptRec) → IsFrom mark l → at_least mark (gives_of agg gap kept l) ≡ gives_of agg gap later l
      left l late =
          open_sessions-rest agg gap mark kept (all_records l) some (All-from_recursion (λ r. mark ≤ r.time) (all_records l) (from l late))
          ∙ at_least-all (session_rows agg gap (open_ ++ all_records l)) (rows-open (open_ ++ all_records l) (all-open some kept (all_records l) (from l late)))
          ∙ sym (by_order l)

-- ---- the same of what is kept in an option
pub open-adds : (agg : Agg) (gap closed : ℕ) (o : Option OpenSessions) (was_open : OpenSessions) (later part : List Record) (es : List KeptRec) → o ≡ Some was_open
    → IsReordered later (kept_of was_open.times.entries ++ part) → es ≡ on_lane 0 part → Adds closed (gives_of agg gap (records_in o)) (gives_of agg gap later) es
open-adds agg gap closed o was_open later part es was is stands =
    subst (λ (p : Option OpenSessions). Adds closed (gives_of agg gap (records_in p)) (gives_of agg gap later) es) (sym was)
    (gives-adds agg gap closed (kept_of was_open.times.entries) later part es is stands)

pub open-closes : (agg : Agg) (gap mark : ℕ) (o : Option OpenSessions) (was_open : OpenSessions) (later rows : List Record) → o ≡ Some was_open → was_open.gap ≡ gap → 1 ≤ was_open.gap
    → rows ≡ before mark (session_rows agg was_open.gap (kept_of was_open.times.entries)) → IsAscending record_cmp rows
    → IsReordered later (filter (is_session_open was_open.gap mark (kept_of was_open.times.entries)) (kept_of was_open.times.entries))
    → Closes mark (gives_of agg gap (records_in o)) rows (gives_of agg gap later)
open-closes agg gap mark o was_open later rows was same some rows_are up left =
    subst (λ (p : Option OpenSessions). Closes mark (gives_of agg gap (records_in p)) rows (gives_of agg gap later)) (sym was)
    (subst (λ g. Closes mark (gives_of agg g (kept_of was_open.times.entries)) rows (gives_of agg g later)) same
    (gives-closes agg was_open.gap mark some (kept_of was_open.times.entries) later rows rows_are up left))
