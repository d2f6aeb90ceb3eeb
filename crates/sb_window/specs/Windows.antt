-- Which windows there are, and in which a record lies.
use Rattle.std.specs.Prelude.{ℕ, ℤ, ◌+◌, ◌/◌, ◌%◌, ◌==◌, nat_lt, Bool, not, ◌&&◌, ◌||◌, if◌then◌else◌, List, map, filter, Result, Ok, Err}
use Rattle.std.specs.List.{flat_map, list_any, range_with_len}
use Rattle.std.specs.Ordering.{nat_cmp, ordering_then}
use Rattle.std.specs.declared.cmp.Ordering.{Ordering}
use Rattle.sb_record.specs.declared.item.Record.{Record}
use Rattle.sb_record.specs.Keys.{key_cmp, same_key}
use Rattle.sb_record.specs.Orders.{distinct}
use Rattle.sb_window.specs.declared.windows.BadWindow.{BadWindow}
use Rattle.sb_window.specs.declared.windows.BadWindow.TheVariants.{Size, Every}
use Rattle.sb_window.specs.declared.windows.TheConstants.{MAX_SIZE, MAX_WINDOWS_OF_A_TIME}
use Rattle.sb_window.specs.declared.keyed_window.KeyedWindow.{KeyedWindow}
use Rattle.sb_window.specs.Spacing.{Spacing}

-- windows of this size and spacing, or what is wrong with them
abbrev pub spacing_of : ℕ → ℕ → Result Spacing BadWindow
spacing_of size every =
    if size == 0 || nat_lt MAX_SIZE size then Err Size
    else if every == 0 || (not (size % every == 0) || nat_lt MAX_WINDOWS_OF_A_TIME (size / every)) then Err Every
    else Ok (record { size = size; every = every })

-- the ends of the windows of a time, least first: the multiples e of every with t < e <= t + size
abbrev pub window_ends : Spacing → ℕ → List ℕ
window_ends windows t = filter (λ e. (e % windows.every) == 0) (range_with_len (t + 1) windows.size)

-- by end, then key
abbrev pub keyed_window_cmp : KeyedWindow → KeyedWindow → Ordering
keyed_window_cmp a b = ordering_then (nat_cmp a.end b.end) (key_cmp a.key b.key)

-- the keyed windows of a record
abbrev pub windows_of : Spacing → Record → List KeyedWindow
windows_of windows r = map (λ e. record { end = e; key = r.key }) (window_ends windows r.time)

-- the keyed windows that have records, each once, in order
abbrev pub keyed_windows : Spacing → List Record → List KeyedWindow
keyed_windows windows l = distinct keyed_window_cmp (flat_map (windows_of windows) l)

-- whether the record lies in the keyed window
abbrev pub is_in : Spacing → KeyedWindow → Record → Bool
is_in windows q r = same_key r.key q.key && list_any (λ e. e == q.end) (window_ends windows r.time)

-- the values of the records that lie in the keyed window
abbrev pub values_in : Spacing → KeyedWindow → List Record → List ℤ
values_in windows q l = map (λ r. r.value) (filter (is_in windows q) l)
