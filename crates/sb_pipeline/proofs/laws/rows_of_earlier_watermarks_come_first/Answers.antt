use Rattle.sb_windowed.specs.records.Records.{at_least, before, sorted_records}
use Rattle.sb_windowed.proofs.records.Earlier.{sorted_before-front}
use Rattle.sb_pipeline.specs.Results.{output_of}
use Rattle.sb_pipeline.proofs.laws.rows_of_earlier_watermarks_come_first.Goals as goal

pub returns : goal.returns
returns c = λ v w plan streams earlier. (sorted_records (at_least v (before w (output_of plan streams))), sorted_before-front v w (output_of plan streams) earlier)
