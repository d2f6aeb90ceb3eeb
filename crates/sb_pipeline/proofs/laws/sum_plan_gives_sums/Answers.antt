use Rattle.std.proofs.Common.{ap, ◌∙◌}
use Rattle.sb_windowed.specs.records.Records.{before, sorted_records}
use Rattle.sb_windowed.specs.records.declared.item.Stream.TheVariants.{A}
use Rattle.sb_windowed.specs.window.Spacing.{fixed_windows}
use Rattle.sb_windowed.specs.window.Aggregations.{sum_rows}
use Rattle.sb_windowed.proofs.records.OnLanes.{all_records-on_lane}
use Rattle.sb_pipeline.proofs.laws.sum_plan_gives_sums.Goals as goal

pub returns-clause-sums : goal.returns-clause-sums
returns-clause-sums c = λ size w streams. ap (λ l. sorted_records (before w l)) (all_records-on_lane 0 _ ∙ ap (sum_rows (fixed_windows size)) (all_records-on_lane 0 (streams A)))
