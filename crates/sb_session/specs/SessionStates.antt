-- Sessions between closings: what is kept of those that are open, and what that would give.
use Rattle.std.specs.Prelude.{◌≡◌, ◌<◌, ℕ, Bool, true, false, All, List, [], ◌++◌, sum_by, Option, Some, None}
use Rattle.std.proofs.Common.{refl, ap}
use Rattle.sb_windowed.specs.records.declared.element.KeptRec.{KeptRec}
use Rattle.sb_windowed.specs.records.declared.item.Record.{Record}
use Rattle.sb_windowed.specs.records.declared.item.TheConstants.{END_MARK}
use Rattle.sb_windowed.specs.records.Elements.{all_records}
use Rattle.sb_windowed.specs.records.Reorderings.{IsReordered}
use Rattle.sb_windowed.specs.window.SumLemmas.{IsReordered-append, IsReordered-map}
use Rattle.sb_windowed.specs.declared.aggregate.Agg.{Agg}
use Rattle.sb_windowed.specs.Sessions.{session_rows}
use Rattle.sb_windowed.proofs.SessionRows.{session_rows-orderless}
use Rattle.sb_session.specs.declared.open.OpenSessions.{OpenSessions}
use Rattle.sb_session.specs.Kept.{kept_of}

-- the records whose sessions are open, the mark of the last closing, and whether no memory was found
pub record SessionState : Type 0 where
  pub agg : Agg
  pub gap : ℕ
  pub records : List Record
  pub closed : ℕ
  pub spent : Bool

-- sessions of which no record was taken
abbrev pub fresh : Agg → ℕ → SessionState
fresh agg gap = record { agg = agg; gap = gap; records = []; closed = 0; spent = false }

-- no memory was found
abbrev pub IsSpent : SessionState → Type 0
IsSpent s = s.spent ≡ true

-- the rows of the sessions of what is kept and of these elements
abbrev pub gives : SessionState → List KeptRec → List Record
gives s l = session_rows s.agg s.gap (s.records ++ all_records l)

-- no record is so late that it is after the end of the input
abbrev pub IsInTime : List Record → Type 0
IsInTime records = All (λ r. r.time < END_MARK) records

-- the records of open sessions; there are none once no memory was found
abbrev pub records_in : Option OpenSessions → List Record
records_in None = []
records_in (Some o) = kept_of o.times.entries

-- elements in another order give the same rows; it stands here because the grouping's law of order cites it
pub gives-orderless : (s : SessionState) (l m : List KeptRec) → IsReordered l m → IsReordered (gives s l) (gives s m)
gives-orderless s l m h f = ap (sum_by f) (
    session_rows-orderless s.agg s.gap (s.records ++ all_records l) (s.records ++ all_records m)
    (IsReordered-append s.records s.records (all_records l) (all_records m)
    (λ f. refl) (IsReordered-map (λ e. e.rec) l m h)))
