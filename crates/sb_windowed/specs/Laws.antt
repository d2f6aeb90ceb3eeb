-- The laws of aggregations, of sessions and of joins, and their limits as numbers.
use Rattle.std.specs.Prelude.{◌≡◌, ◌≤◌, ◌<◌, ◌+◌, ◌^◌, ℕ, List, ◌++◌, All, Contains, filter}
use Rattle.sb_window.specs.records.declared.item.Record.{Record}
use Rattle.sb_window.specs.records.Records.{before, at_least}
use Rattle.sb_window.specs.records.Reorderings.{IsReordered}
use Rattle.sb_window.specs.Spacing.{Spacing}
use Rattle.sb_window.specs.Reorderings.{IgnoresOrder}
use Rattle.sb_windowed.specs.declared.aggregate.TheConstants.{MAX_TOP}
use Rattle.sb_windowed.specs.declared.session.TheConstants.{MAX_GAP}
use Rattle.sb_windowed.specs.declared.aggregate.Agg.{Agg}
use Rattle.sb_windowed.specs.Aggregates.{aggregate_values, aggregate_rows}
use Rattle.sb_windowed.specs.Sessions.{session_end, session_rows, is_session_open}
use Rattle.sb_windowed.specs.declared.join.Combine.{Combine}
use Rattle.sb_windowed.specs.Joins.{join_rows}

-- the most of the greatest values that an aggregation gives, and the greatest gap of sessions
pub record Limits : Type 0 where
  pub top : MAX_TOP ≡ 16
  pub gap : MAX_GAP ≡ 10 ^ 12

-- values in another order give the same
abbrev pub AggregatesDoNotDependOnOrder : Type 0
AggregatesDoNotDependOnOrder = (agg : Agg) → IgnoresOrder (aggregate_values agg)

-- records in another order give the same rows, as a list
abbrev pub AggregateRowsDoNotDependOnOrder : Type 0
AggregateRowsDoNotDependOnOrder =
    (agg : Agg) (windows : Spacing) (l m : List Record) → IsReordered l m
    → aggregate_rows agg windows l ≡ aggregate_rows agg windows m

-- records in another order give the same rows of sessions, as a list
abbrev pub SessionRowsDoNotDependOnOrder : Type 0
SessionRowsDoNotDependOnOrder =
    (agg : Agg) (gap : ℕ) (l m : List Record) → IsReordered l m → session_rows agg gap l ≡ session_rows agg gap m

-- where what is later comes from the mark on, the sessions that end by the mark are final
abbrev pub ClosedSessionsAreFinal : Type 0
ClosedSessionsAreFinal =
    (agg : Agg) (gap mark : ℕ) (l later : List Record) → 1 ≤ gap → All (λ r. mark ≤ r.time) later
    → before mark (session_rows agg gap (l ++ later)) ≡ before mark (session_rows agg gap l)

-- and what is left are those of the records whose sessions are open, and of what is later
abbrev pub OpenSessionsGiveTheRest : Type 0
OpenSessionsGiveTheRest =
    (agg : Agg) (gap mark : ℕ) (l later : List Record) → 1 ≤ gap → All (λ r. mark ≤ r.time) later
    → at_least mark (session_rows agg gap (l ++ later))
    ≡ at_least mark (session_rows agg gap (filter (is_session_open gap mark l) l ++ later))

-- a session is cut between two neighbours in time just where the later one is the gap or more after the earlier one
abbrev pub SessionsAreCutAtGaps : Type 0
SessionsAreCutAtGaps =
    (gap : ℕ) (l : List Record) (r next : Record) → Contains l next → r.key ≡ next.key → r.time ≤ next.time
    → All (λ x. x.key ≡ r.key → r.time < x.time → next.time ≤ x.time) l
    → (next.time < r.time + gap → session_end gap l r ≡ session_end gap l next)
    × (r.time + gap ≤ next.time → session_end gap l r ≡ r.time + gap)

-- and the session of the last record of a key ends the gap after it
abbrev pub LastRecordsEndSessions : Type 0
LastRecordsEndSessions =
    (gap : ℕ) (l : List Record) (r : Record) → All (λ x. x.key ≡ r.key → x.time ≤ r.time) l
    → session_end gap l r ≡ r.time + gap

-- records in another order give the same rows of a join, in another order
abbrev pub JoinsDoNotDependOnOrder : Type 0
JoinsDoNotDependOnOrder =
    (combine : Combine) (windows : Spacing) (left left' right right' : List Record)
    → IsReordered left left' → IsReordered right right'
    → IsReordered (join_rows combine windows left right) (join_rows combine windows left' right')

-- the rows of a join in the windows that a watermark closes are given by the records with times below it
abbrev pub ClosedJoinsDependOnEarlierRecords : Type 0
ClosedJoinsDependOnEarlierRecords =
    (combine : Combine) (windows : Spacing) (mark : ℕ) (left right : List Record)
    → before mark (join_rows combine windows left right)
    ≡ before mark (join_rows combine windows (before mark left) (before mark right))
