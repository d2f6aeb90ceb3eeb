-- The laws of plans, and their limits as numbers.
use Rattle.std.specs.Prelude.{◌≡◌, ◌≤◌, ◌^◌, ℕ, List, ◌++◌, All}
use Rattle.sb_windowed.specs.records.declared.item.Record.{Record}
use Rattle.sb_windowed.specs.records.declared.item.Stream.{Stream}
use Rattle.sb_windowed.specs.records.declared.item.Stream.TheVariants.{A}
use Rattle.sb_windowed.specs.records.Lines.{IsInRange}
use Rattle.sb_windowed.specs.records.Records.{before, sorted_records}
use Rattle.sb_windowed.specs.window.declared.windows.TheConstants.{MAX_SIZE}
use Rattle.sb_windowed.specs.window.Spacing.{fixed_windows}
use Rattle.sb_windowed.specs.window.Aggregations.{sum_rows}
use Rattle.sb_windowed.specs.declared.session.TheConstants.{MAX_GAP}
use Rattle.sb_pipeline.specs.declared.transform.TheConstants.{MAX_TRANSFORMS}
use Rattle.sb_pipeline.specs.Plans.{IsPlan}
use Rattle.sb_pipeline.specs.Results.{all_rows, output_of, rows_below}
use Rattle.sb_pipeline.specs.Shapes.{Shape, sum_shape}

-- the most transforms of a plan, and the greatest gap of sessions
pub record Limits : Type 0 where
  pub transforms : MAX_TRANSFORMS ≡ 12
  pub gap : MAX_GAP ≡ 10 ^ 12

-- the plan of one sum is a plan
abbrev pub SumPlanIsPlan : Type 0
SumPlanIsPlan = (size : ℕ) → 1 ≤ size → size ≤ MAX_SIZE → IsPlan (sum_shape size)

-- and it gives the sums of stream a by window and key
abbrev pub SumPlanGivesSums : Type 0
SumPlanGivesSums =
    (size w : ℕ) (streams : Stream → List Record)
    → rows_below w (sum_shape size) streams ≡ sorted_records (before w (sum_rows (fixed_windows size) (streams A)))

-- the rows below a watermark begin those below each later one
abbrev pub RowsOfEarlierWatermarksComeFirst : Type 0
RowsOfEarlierWatermarksComeFirst =
    (v w : ℕ) (plan : Shape) (streams : Stream → List Record) → v ≤ w
    → (more : List Record) × (rows_below w plan streams ≡ rows_below v plan streams ++ more)

-- no row of a plan over records that lines can give is too late: all rows are all that the plan gives, sorted
abbrev pub AllRowsAreTheSortedOutput : Type 0
AllRowsAreTheSortedOutput =
    (plan : Shape) → IsPlan plan → (streams : Stream → List Record)
    → ((s : Stream) → All (IsInRange plan.keys) (streams s))
    → all_rows plan streams ≡ sorted_records (output_of plan streams)
