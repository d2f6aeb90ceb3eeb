-- Sessions: what comes of one key, cut where the next time is a gap or more later.
use Rattle.std.specs.Prelude.{ℕ, ℤ, ◌+◌, ◌-◌, ◌==◌, nat_lt, Bool, not, ◌&&◌, if◌then◌else◌, List, [], ◌∷◌, map, filter}
use Rattle.std.specs.List.{flat_map}
use Rattle.std.specs.Ordering.{nat_cmp}
use Rattle.sb_window.specs.records.declared.item.Record.{Record}
use Rattle.sb_window.specs.records.declared.key.Key.{Key}
use Rattle.sb_window.specs.records.Keys.{same_key}
use Rattle.sb_window.specs.records.Orders.{in_order, distinct}
use Rattle.sb_window.specs.declared.keyed_window.KeyedWindow.{KeyedWindow}
use Rattle.sb_window.specs.Windows.{keyed_window_cmp}
use Rattle.sb_windowed.specs.declared.aggregate.Agg.{Agg}
use Rattle.sb_windowed.specs.Aggregates.{aggregate_values}

-- the end of the session of a time, where these are the times of its key from it on, in order: the session goes on to
-- the next time if that is less than the gap later; if not, it is cut there, and ends the gap after its last time
abbrev pub end_from : ℕ → ℕ → List ℕ → ℕ
end_from gap t [] = t + gap
end_from gap t (next ∷ times) = if nat_lt next (t + gap) then end_from gap next times else t + gap

-- the times of a key from t on, in order
abbrev pub times_from : Key → ℕ → List Record → List ℕ
times_from key t l = in_order nat_cmp (map (λ r. r.time) (filter (λ r. same_key r.key key && not (nat_lt r.time t)) l))

-- the end of a record's session
abbrev pub session_end : ℕ → List Record → Record → ℕ
session_end gap l r = end_from gap r.time (times_from r.key r.time l)

-- a record's session: it is named by its end and its key, as a window of one key is
abbrev pub session_of : ℕ → List Record → Record → KeyedWindow
session_of gap l r = record { end = session_end gap l r; key = r.key }

-- the sessions, each once, in order
abbrev pub sessions_of : ℕ → List Record → List KeyedWindow
sessions_of gap l = distinct keyed_window_cmp (map (session_of gap l) l)

-- whether the record is in the session
abbrev pub is_in_session : ℕ → List Record → KeyedWindow → Record → Bool
is_in_session gap l q r = same_key r.key q.key && (session_end gap l r == q.end)

-- the values of the records in the session
abbrev pub values_in_session : ℕ → List Record → KeyedWindow → List ℤ
values_in_session gap l q = map (λ r. r.value) (filter (is_in_session gap l q) l)

-- the rows of the session; their time is the last one before its end
abbrev pub rows_in_session : Agg → ℕ → List Record → KeyedWindow → List Record
rows_in_session agg gap l q =
    map (λ v. record { time = q.end - 1; key = q.key; value = v }) (aggregate_values agg (values_in_session gap l q))

-- the rows of all sessions
abbrev pub session_rows : Agg → ℕ → List Record → List Record
session_rows agg gap l = flat_map (rows_in_session agg gap l) (sessions_of gap l)

-- whether the record's session ends after the mark
abbrev pub is_session_open : ℕ → ℕ → List Record → Record → Bool
is_session_open gap mark l r = nat_lt mark (session_end gap l r)
