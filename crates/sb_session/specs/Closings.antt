-- A closing, candidate by candidate.
use Rattle.std.specs.Prelude.{◌≡◌, ◌<◌, ◌+◌, ◌-◌, ◌⊎◌, ℕ, ℤ, IsSome, None, nat_lt, Bool, not, ◌&&◌, List, [], ◌∷◌, ◌++◌, map, filter}
use Rattle.std.specs.BTreeMap.{BTreeMap, get}
use Rattle.std.specs.List.{flat_map}
use Rattle.sb_windowed.specs.records.declared.item.Record.{Record}
use Rattle.sb_windowed.specs.records.declared.key.Key.{Key}
use Rattle.sb_windowed.specs.records.Keys.{same_key}
use Rattle.sb_windowed.specs.records.Reorderings.{IsReordered}
use Rattle.sb_windowed.specs.window.declared.keyed_window.KeyedWindow.{KeyedWindow}
use Rattle.sb_windowed.specs.declared.aggregate.Agg.{Agg}
use Rattle.sb_windowed.specs.Aggregates.{aggregate_values}
use Rattle.sb_windowed.specs.Sessions.{is_session_open, values_in_session}
use Rattle.sb_session.specs.declared.keyed_time.KeyedTime.{KeyedTime}
use Rattle.sb_session.specs.Kept.{keyed_time_cmp, kept_of, AreFull}

-- whether a record is of the key, with a time below the end
abbrev pub is_below : Key → ℕ → Record → Bool
is_below key end r = same_key r.key key && nat_lt r.time end

-- the values of the records of the key with times below the end are taken, in some order, and the others stay
pub record Takes (key : Key) (end : ℕ) (old new : List Record) (values : List ℤ) : Type 0 where
  pub taken : IsReordered values (map (λ r. r.value) (filter (is_below key end) old))
  pub left : IsReordered new (filter (λ r. not (is_below key end r)) old)

-- the row of a session with this value; its time is the last one before the session's end
abbrev pub row_of : KeyedWindow → ℤ → Record
row_of q v = record { time = q.end - 1; key = q.key; value = v }

-- the rows of a session with these values, none where there are none
abbrev pub rows_of : Agg → KeyedWindow → List ℤ → List Record
rows_of agg q [] = []
rows_of agg q (v ∷ vs) = map (row_of q) (aggregate_values agg (v ∷ vs))

-- the key has a time less than the gap before the candidate's end, so the session goes on
abbrev pub GoesOn : ℕ → BTreeMap KeyedTime (List ℤ) → KeyedWindow → Type 0
GoesOn gap old q =
    (u : ℕ) × (q.end < u + gap) × (u < q.end) × IsSome (get keyed_time_cmp old (record { key = q.key; time = u }))

-- the key has no such time
abbrev pub IsSilent : ℕ → BTreeMap KeyedTime (List ℤ) → KeyedWindow → Type 0
IsSilent gap old q =
    (u : ℕ) → q.end < u + gap → u < q.end → get keyed_time_cmp old (record { key = q.key; time = u }) ≡ None

-- the candidate's session has ended: the key's values below the end leave, and its rows are appended
pub record Ends (agg : Agg) (gap : ℕ) (old : BTreeMap KeyedTime (List ℤ)) (q : KeyedWindow) (rows : List Record)
    (new : BTreeMap KeyedTime (List ℤ)) (more : List Record) : Type 0 where
  pub silent : IsSilent gap old q
  pub values : List ℤ
  pub takes : Takes q.key q.end (kept_of old.entries) (kept_of new.entries) values
  pub full : AreFull old → AreFull new
  pub rows_are : more ≡ rows ++ rows_of agg q values

-- one candidate: its session goes on, and nothing changes, or it has ended
abbrev pub ClosesOne : Agg → ℕ → BTreeMap KeyedTime (List ℤ) → KeyedWindow → List Record
    → BTreeMap KeyedTime (List ℤ) → List Record → Type 0
ClosesOne agg gap old q rows new more =
    (GoesOn gap old q × ((new ≡ old) × (more ≡ rows))) ⊎ Ends agg gap old q rows new more

-- all candidates: their rows come out, and the records of open sessions stay
pub record IsClosed (agg : Agg) (gap mark : ℕ) (l : List Record) (due : List KeyedWindow)
    (rows left : List Record) : Type 0 where
  pub rows_are : rows ≡ flat_map (λ q. rows_of agg q (values_in_session gap l q)) due
  pub left_are : IsReordered left (filter (is_session_open gap mark l) l)
