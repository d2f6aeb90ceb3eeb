-- The records that a map of values by key and time stands for.
use Rattle.std.specs.Prelude.{◌≡◌, ◌<◌, ◌≤◌, ℕ, ℤ, IsSome, Some, None, List, map, length}
use Rattle.std.specs.BTreeMap.{BTreeMap, get}
use Rattle.std.specs.List.{flat_map}
use Rattle.std.specs.Ordering.{nat_cmp, ordering_then}
use Rattle.std.specs.declared.cmp.Ordering.{Ordering}
use Rattle.sb_windowed.specs.records.declared.item.Record.{Record}
use Rattle.sb_windowed.specs.records.Keys.{key_cmp}
use Rattle.sb_windowed.specs.window.declared.keyed_window.KeyedWindow.{KeyedWindow}
use Rattle.sb_session.specs.declared.keyed_time.KeyedTime.{KeyedTime}

-- by key, then time
abbrev pub keyed_time_cmp : KeyedTime → KeyedTime → Ordering
keyed_time_cmp a b = ordering_then (key_cmp a.key b.key) (nat_cmp a.time b.time)

abbrev pub time_of : Record → KeyedTime
time_of r = record { key = r.key; time = r.time }

-- a record of this key and time for each value
abbrev pub records_at : KeyedTime → List ℤ → List Record
records_at at values = map (λ v. record { time = at.time; key = at.key; value = v }) values

-- the records of all keys and times
abbrev pub kept_of : List (KeyedTime × List ℤ) → List Record
kept_of entries = flat_map (λ e. records_at e.0 e.1) entries

-- there is a value at each time
abbrev pub AreFull : BTreeMap KeyedTime (List ℤ) → Type 0
AreFull times = (q : KeyedTime) (vs : List ℤ) → get keyed_time_cmp times q ≡ Some vs → 0 < length vs

-- there are values at this time of the session's key, which is from this time on and below the session's end
abbrev pub IsBetween : BTreeMap KeyedTime (List ℤ) → ℕ → KeyedWindow → KeyedTime → Type 0
IsBetween times from session at =
    (at.key ≡ session.key) × (from ≤ at.time) × (at.time < session.end) × IsSome (get keyed_time_cmp times at)

-- there are none
abbrev pub NoneBetween : BTreeMap KeyedTime (List ℤ) → ℕ → KeyedWindow → Type 0
NoneBetween times from session =
    (u : ℕ) → from ≤ u → u < session.end
    → get keyed_time_cmp times (record { key = session.key; time = u }) ≡ None
