-- Sorted runs: lists of keyed windows with a value each, every window once, in order. A run is seen as a finite map.
use Rattle.std.specs.Prelude.{◌≡◌, ℕ, suc, zero, ◌+◌, ◌*◌, List, [], ◌∷◌, map, Option, None}
use Rattle.std.specs.BTreeMap.{is_at}
use Rattle.std.specs.List.Sorted.{IsStrictlySortedBy}
use Rattle.std.specs.Map.{keys_of, lookup}
use Rattle.sb_window.specs.declared.keyed_window.KeyedWindow.{KeyedWindow}
use Rattle.sb_window.specs.Gatherings.{joined_value}
use Rattle.sb_window.specs.Windows.{keyed_window_cmp}

-- the windows rise, so none comes twice
abbrev pub IsRun : {V : Type 0} → List (KeyedWindow × V) → Type 0
IsRun entries = IsStrictlySortedBy keyed_window_cmp (keys_of entries)

-- the value of a keyed window, if it has one
abbrev pub found : {V : Type 0} → List (KeyedWindow × V) → KeyedWindow → Option V
found entries q = lookup (is_at (keyed_window_cmp q)) entries

-- what several runs have for a keyed window, joined from the first run on
abbrev pub found_in : {V : Type 0} → (V → V → V) → List (List (KeyedWindow × V)) → KeyedWindow → Option V
found_in join [] q = None
found_in join (run ∷ runs) q = joined_value join (found run q) (found_in join runs q)

-- of three values it does not matter which two are joined first
abbrev pub IsAssociative : {V : Type 0} → (V → V → V) → Type 0
IsAssociative {V} join = (u v w : V) → join (join u v) w ≡ join u (join v w)

-- the entry, with a window that ends so much later
abbrev pub later_entry : {V : Type 0} → ℕ → KeyedWindow × V → KeyedWindow × V
later_entry by e = (record { end = e.0.end + by; key = e.0.key }, e.1)

-- the run, with windows that end so much later
abbrev pub shifted_by : {V : Type 0} → ℕ → List (KeyedWindow × V) → List (KeyedWindow × V)
shifted_by by run = map (later_entry by) run

-- what several runs have for a keyed window, joined: the run as it is, one step later, two steps later, and so on
abbrev pub spread_value : {V : Type 0}
    → (V → V → V) → ℕ → ℕ → List (KeyedWindow × V) → KeyedWindow → Option V
spread_value join step zero run q = None
spread_value join step (suc count) run q =
    joined_value join (spread_value join step count run q) (found (shifted_by (count * step) run) q)
