use Rattle.std.proofs.lemmas.List.Elements.{recursion_from_All}
use Rattle.sb_windowed.specs.records.Lines.{IsInRange}
use Rattle.sb_windowed.proofs.records.Elements.{every}
use Rattle.sb_pipeline.proofs.Times.{all_rows-sorted}
use Rattle.sb_pipeline.proofs.laws.all_rows_are_the_sorted_output.Goals as goal

pub returns : goal.returns
returns c = λ plan is streams in_range. all_rows-sorted plan is streams (λ s. every (λ r fits. fits.time) (streams s) (recursion_from_All (IsInRange plan.keys) (streams s) (in_range s)))
