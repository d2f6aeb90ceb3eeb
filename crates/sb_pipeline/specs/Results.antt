-- What a plan gives over whole lists.
use Rattle.std.specs.Prelude.{ℕ, List, slice_get}
use Rattle.sb_windowed.specs.records.declared.item.Record.{Record}
use Rattle.sb_windowed.specs.records.declared.item.Stream.{Stream}
use Rattle.sb_windowed.specs.records.declared.item.TheConstants.{END_MARK}
use Rattle.sb_windowed.specs.records.Records.{before, sorted_records}
use Rattle.sb_windowed.specs.records.declared.element.KeptRec.{KeptRec}
use Rattle.sb_pipeline.specs.Flow.{flow}
use Rattle.sb_pipeline.specs.Operators.{operator_at, output}
use Rattle.sb_pipeline.specs.Shapes.{Shape}

-- what node k gives over all of its input
abbrev pub output_at : Shape → ℕ → List KeptRec → List Record
output_at plan k elements = output (operator_at (slice_get plan.steps k)) elements

-- the output of the last transform
abbrev pub output_of : Shape → (Stream → List Record) → List Record
output_of plan streams = flow plan (output_at plan) streams

-- the rows with time below w
abbrev pub rows_below : ℕ → Shape → (Stream → List Record) → List Record
rows_below w plan streams = sorted_records (before w (output_of plan streams))

-- the rows of all windows: the end of the streams is a watermark above every time
abbrev pub all_rows : Shape → (Stream → List Record) → List Record
all_rows plan streams = rows_below END_MARK plan streams
