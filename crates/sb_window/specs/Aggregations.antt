-- What an aggregation gives over a whole list of records.
use Rattle.std.specs.Prelude.{ℤ, ◌-◌, ◌%◌, ◌^◌, List, [], ◌∷◌, map, sum_by}
use Rattle.std.specs.List.{flat_map}
use Rattle.std.specs.Int.{cast_signed, cast_unsigned, w64}
use Rattle.sb_record.specs.declared.item.Record.{Record}
use Rattle.sb_window.specs.declared.keyed_window.KeyedWindow.{KeyedWindow}
use Rattle.sb_window.specs.Spacing.{Spacing}
use Rattle.sb_window.specs.Windows.{keyed_windows, values_in}

-- the rows of a keyed window, where values gives what becomes of its values; their time is the last one in the window
abbrev pub rows_in : (List ℤ → List ℤ) → Spacing → List Record → KeyedWindow → List Record
rows_in values windows l q =
    map (λ v. record { time = q.end - 1; key = q.key; value = v }) (values (values_in windows q l))

-- the rows of all keyed windows that have records
abbrev pub rows_by : (List ℤ → List ℤ) → Spacing → List Record → List Record
rows_by values windows l = flat_map (rows_in values windows l) (keyed_windows windows l)

-- the sum of values, which wraps as that of 64-bit numbers does
abbrev pub sum_values : List ℤ → List ℤ
sum_values vs = cast_signed w64 (sum_by (cast_unsigned w64) vs % 2 ^ 64) ∷ []

abbrev pub sum_rows : Spacing → List Record → List Record
sum_rows windows l = rows_by sum_values windows l
