-- The values of each keyed window.
use Rattle.std.specs.Prelude.{ℕ, ℤ, ◌-◌, if◌then◌else◌, List, [], ◌++◌, map, filter, Option, Some, None, unwrap_or}
use Rattle.std.specs.List.{flat_map, list_any}
use Rattle.sb_base.specs.records.declared.item.Record.{Record}
use Rattle.sb_base.specs.window.declared.keyed_window.KeyedWindow.{KeyedWindow}
use Rattle.sb_base.specs.window.Spacing.{Spacing}
use Rattle.sb_base.specs.window.Gatherings.{gathered_value, joined_value}
use Rattle.sb_base.specs.windowed.Sessions.{is_in_session}
use Rattle.sb_base.specs.windowed.declared.join.Combine.{Combine}
use Rattle.sb_base.specs.windowed.Joins.{pair_values}

-- the values of the records that lie in a keyed window, where there are any
abbrev pub values_at : Spacing → List Record → KeyedWindow → Option (List ℤ)
values_at windows l q = gathered_value (λ vs. vs) windows l q

-- the values of those of the records that are in a session of the list, where there are any
abbrev pub session_values_at : ℕ → List Record → List Record → KeyedWindow → Option (List ℤ)
session_values_at gap l records q =
    if list_any (is_in_session gap l q) records
    then Some (map (λ r. r.value) (filter (is_in_session gap l q) records))
    else None

-- values followed by others, where there are any
abbrev pub values_with : Option (List ℤ) → Option (List ℤ) → Option (List ℤ)
values_with first more = joined_value (λ vs ws. vs ++ ws) first more

-- the rows of the pairs of each left entry with the right values of the same keyed window, if there are any
abbrev pub rows_of_pairs : Combine → (KeyedWindow → Option (List ℤ)) → List (KeyedWindow × List ℤ) → List Record
rows_of_pairs combine right entries =
    flat_map (λ e. map (λ v. record { time = e.0.end - 1; key = e.0.key; value = v })
    (pair_values combine e.1 (unwrap_or (right e.0) []))) entries
