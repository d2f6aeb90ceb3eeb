-- What a join gives over the whole lists of its two inputs.
use Rattle.std.specs.Prelude.{ℤ, ◌-◌, List, map}
use Rattle.std.specs.List.{flat_map}
use Rattle.std.specs.Int.{int_wrapping_add, int_wrapping_sub, int_wrapping_mul, int_min, int_max, w64}
use Rattle.sb_window.specs.records.declared.item.Record.{Record}
use Rattle.sb_window.specs.declared.keyed_window.KeyedWindow.{KeyedWindow}
use Rattle.sb_window.specs.Spacing.{Spacing}
use Rattle.sb_window.specs.Windows.{keyed_windows, values_in}
use Rattle.sb_windowed.specs.declared.join.Combine.{Combine}
use Rattle.sb_windowed.specs.declared.join.Combine.TheVariants.{Add, Sub, Mul, Min, Max, Left, Right}

-- the value of a pair
abbrev pub pair_value : Combine → ℤ → ℤ → ℤ
pair_value Add x y = int_wrapping_add w64 x y
pair_value Sub x y = int_wrapping_sub w64 x y
pair_value Mul x y = int_wrapping_mul w64 x y
pair_value Min x y = int_min x y
pair_value Max x y = int_max x y
pair_value Left x y = x
pair_value Right x y = y

-- the values of the pairs of each left value with each right one, left by left
abbrev pub pair_values : Combine → List ℤ → List ℤ → List ℤ
pair_values combine xs ys = flat_map (λ x. map (λ y. pair_value combine x y) ys) xs

-- a record for each pair of a left and a right record of the keyed window; its time is the last one in the window
abbrev pub pairs : Combine → Spacing → List Record → List Record → KeyedWindow → List Record
pairs combine windows left right q =
    map (λ v. record { time = q.end - 1; key = q.key; value = v })
    (pair_values combine (values_in windows q left) (values_in windows q right))

-- the rows of all keyed windows that have left records
abbrev pub join_rows : Combine → Spacing → List Record → List Record → List Record
join_rows combine windows left right = flat_map (pairs combine windows left right) (keyed_windows windows left)
