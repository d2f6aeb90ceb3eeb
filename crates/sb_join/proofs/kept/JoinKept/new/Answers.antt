use Rattle.std.proofs.Common.{◌++◌, ap, ◌∙◌}
use Rattle.sb_runs.specs.records.Elements.{of_lane}
use Rattle.sb_runs.specs.records.Records.{at_least}
use Rattle.sb_windowed.specs.declared.join.Side.TheVariants.{Left, Right}
use Rattle.sb_join.specs.Entries.{kept_of}
use Rattle.sb_windowed.specs.Joins.{join_rows}
use Rattle.sb_join.proofs.KeptLaws.{fresh-all}
use Rattle.sb_join.proofs.kept.JoinKept.new.Goals as goal

pub returns-clause-fresh : goal.returns-clause-fresh
returns-clause-fresh c =
    λ l. ap (λ runs. at_least 0 (join_rows c.args.combine c.args.windows (kept_of Left runs ++ of_lane 0 l) (kept_of Right runs ++ of_lane 1 l))) c.new.ensures
    ∙ fresh-all (join_rows c.args.combine c.args.windows (of_lane 0 l) (of_lane 1 l))
