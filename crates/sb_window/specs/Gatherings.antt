-- What is gathered of the values of each keyed window, and the rows that are made of it.
use Rattle.std.specs.Prelude.{ℤ, ◌-◌, List, map, Option, Some, None, if◌then◌else◌}
use Rattle.std.specs.List.{flat_map, list_any}
use Rattle.sb_record.specs.declared.item.Record.{Record}
use Rattle.sb_window.specs.declared.keyed_window.KeyedWindow.{KeyedWindow}
use Rattle.sb_window.specs.Spacing.{Spacing}
use Rattle.sb_window.specs.Windows.{is_in, values_in}

-- what is made of the values of a keyed window, where records lie in it
abbrev pub gathered_value : {V : Type 0} → (List ℤ → V) → Spacing → List Record → KeyedWindow → Option V
gathered_value made windows l q = if list_any (is_in windows q) l then Some (made (values_in windows q l)) else None

-- what is made of values and of others that follow them, where there are any
abbrev pub joined_value : {V : Type 0} → (V → V → V) → Option V → Option V → Option V
joined_value join None more = more
joined_value join (Some v) None = Some v
joined_value join (Some v) (Some more) = Some (join v more)

-- the rows of keyed windows, where values gives those of what was gathered in each
abbrev pub rows_of_entries : {V : Type 0} → (V → List ℤ) → List (KeyedWindow × V) → List Record
rows_of_entries values entries =
    flat_map (λ e. map (λ v. record { time = e.0.end - 1; key = e.0.key; value = v }) (values e.1)) entries
