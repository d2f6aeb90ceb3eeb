-- The laws of windows and of aggregations, and the limits of windows as numbers.
use Rattle.std.specs.Prelude.{◌≡◌, ℕ, ℤ, ◌+◌, ◌/◌, ◌%◌, ◌^◌, ◌≤◌, ◌<◌, List, length, All}
use Rattle.std.specs.List.Sorted.{IsStrictlyIncreasing}
use Rattle.sb_record.specs.declared.item.Record.{Record}
use Rattle.sb_record.specs.Records.{before}
use Rattle.sb_record.specs.Reorderings.{IsReordered}
use Rattle.sb_window.specs.declared.windows.TheConstants.{MAX_SIZE, MAX_WINDOWS_OF_A_TIME}
use Rattle.sb_window.specs.Spacing.{Spacing, AreWindows}
use Rattle.sb_window.specs.Windows.{window_ends}
use Rattle.sb_window.specs.Aggregations.{rows_by, sum_values}
use Rattle.sb_window.specs.Reorderings.{IgnoresOrder}

-- the greatest size of a window, and in how many windows a time may lie
pub record Limits : Type 0 where
  pub size : MAX_SIZE ≡ 10 ^ 12
  pub windows_of_a_time : MAX_WINDOWS_OF_A_TIME ≡ 64

-- the ends of the windows that a time lies in, and all of them
pub record AreEndsOf (windows : Spacing) (t : ℕ) (ends : List ℕ) : Type 0 where
  pub count : length ends ≡ windows.size / windows.every
  pub rising : IsStrictlyIncreasing ends
  pub above : All (λ e. t < e) ends
  pub within_size : All (λ e. e ≤ t + windows.size) ends
  pub multiples : All (λ e. e % windows.every ≡ 0) ends

abbrev pub WindowEndsAreSpaced : Type 0
WindowEndsAreSpaced = (windows : Spacing) → AreWindows windows → (t : ℕ) → AreEndsOf windows t (window_ends windows t)

-- records in another order give the same rows, as a list
abbrev pub RowsDoNotDependOnOrder : Type 0
RowsDoNotDependOnOrder =
    (values : List ℤ → List ℤ) → IgnoresOrder values → (windows : Spacing) (l m : List Record)
    → IsReordered l m → rows_by values windows l ≡ rows_by values windows m

-- the rows of the windows that a watermark closes are given by the records with times below it
abbrev pub ClosedWindowsDependOnEarlierRecords : Type 0
ClosedWindowsDependOnEarlierRecords =
    (values : List ℤ → List ℤ) (windows : Spacing) (mark : ℕ) (l : List Record)
    → before mark (rows_by values windows l) ≡ before mark (rows_by values windows (before mark l))

abbrev pub SumsDoNotDependOnOrder : Type 0
SumsDoNotDependOnOrder = IgnoresOrder sum_values
