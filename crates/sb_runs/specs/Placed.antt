-- The values of records, each placed at the keyed windows of its record.
use Rattle.std.specs.Prelude.{ℤ, Bool, List, map, take, filter, if◌then◌else◌, Option, Some, None}
use Rattle.std.specs.BTreeMap.{is_at}
use Rattle.std.specs.List.{list_any}
use Rattle.sb_window.specs.records.declared.item.Record.{Record}
use Rattle.sb_window.specs.declared.keyed_window.KeyedWindow.{KeyedWindow}
use Rattle.sb_window.specs.Spacing.{Spacing}
use Rattle.sb_window.specs.Windows.{keyed_window_cmp, windows_of}

-- the value of a record at each of its keyed windows
abbrev pub placed_of : Spacing → Record → List (KeyedWindow × ℤ)
placed_of windows r = map (λ q. (q, r.value)) (windows_of windows r)

-- the value of a record at its pane, which ends where the first of its windows does
abbrev pub placed_first : Spacing → Record → List (KeyedWindow × ℤ)
placed_first windows r = take 1 (placed_of windows r)

-- whether the value is placed at the keyed window
abbrev pub is_placed : KeyedWindow → KeyedWindow × ℤ → Bool
is_placed q p = is_at (keyed_window_cmp q) p.0

-- the values that are placed at the keyed window
abbrev pub values_at : KeyedWindow → List (KeyedWindow × ℤ) → List ℤ
values_at q placed = map (λ p. p.1) (filter (is_placed q) placed)

-- what is made of the values that are placed at the keyed window, where there are any
abbrev pub placed_value : {V : Type 0} → (List ℤ → V) → List (KeyedWindow × ℤ) → KeyedWindow → Option V
placed_value made placed q = if list_any (is_placed q) placed then Some (made (values_at q placed)) else None
