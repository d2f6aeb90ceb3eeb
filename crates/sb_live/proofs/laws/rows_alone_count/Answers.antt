use Rattle.std.specs.Prelude.{None}
use Rattle.sb_live.proofs.Earlier.{rows_fold}
use Rattle.sb_live.proofs.laws.rows_alone_count.Goals as goal

pub returns : goal.returns
returns c = λ k changes. rows_fold k None changes
