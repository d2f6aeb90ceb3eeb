-- The first entries of runs that are merged or cut, and runs that one is added to.
use Rattle.std.specs.Prelude.{ℕ, nat_lt, Bool, false, not, List, [], ◌∷◌, ◌++◌, Option, Some, None}
use Rattle.std.specs.declared.cmp.Ordering.{Ordering}
use Rattle.sb_window.specs.declared.keyed_window.KeyedWindow.{KeyedWindow}
use Rattle.sb_window.specs.Windows.{keyed_window_cmp}

-- how the first windows of two runs compare, where both have one
abbrev pub firsts_cmp : {V : Type 0} → List (KeyedWindow × V) → List (KeyedWindow × V) → Option Ordering
firsts_cmp [] others = None
firsts_cmp (e ∷ es) [] = None
firsts_cmp (e ∷ es) (f ∷ fs) = Some (keyed_window_cmp e.0 f.0)

-- one entry of the first ones of two runs, with the window of the first run
abbrev pub joined_firsts : {V : Type 0}
    → (V → V → V) → List (KeyedWindow × V) → List (KeyedWindow × V) → List (KeyedWindow × V)
joined_firsts join [] others = []
joined_firsts join (e ∷ es) [] = []
joined_firsts join (e ∷ es) (f ∷ fs) = (e.0, join e.1 f.1) ∷ []

-- whether there is a first window, and it ends by the mark
abbrev pub begins_by : {V : Type 0} → ℕ → List (KeyedWindow × V) → Bool
begins_by mark [] = false
begins_by mark (e ∷ es) = not (nat_lt mark e.0.end)

-- the runs with one more, where it has entries
abbrev pub with_run : {V : Type 0}
    → List (List (KeyedWindow × V)) → List (KeyedWindow × V) → List (List (KeyedWindow × V))
with_run runs [] = runs
with_run runs (e ∷ es) = runs ++ (e ∷ es) ∷ []
