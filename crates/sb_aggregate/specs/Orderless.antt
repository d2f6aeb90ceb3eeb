-- What an aggregate gives does not depend on the order of what comes. It stands here because the law of order of the
-- grouping cites it.
use Rattle.std.proofs.Common.{List, ◌++◌, refl, ap}
use Rattle.std.specs.Prelude.{sum_by}
use Rattle.sb_runs.specs.records.declared.element.KeptRec.{KeptRec}
use Rattle.sb_runs.specs.records.Elements.{all_records}
use Rattle.sb_runs.specs.records.Records.{at_least}
use Rattle.sb_runs.specs.records.Reorderings.{IsReordered}
use Rattle.sb_runs.specs.window.SumLemmas.{IsReordered-append, IsReordered-map}
use Rattle.sb_aggregate.specs.Groups.{Absorbed, given}
use Rattle.sb_windowed.proofs.Orderless.{aggregate_rows-orderless}

-- what an aggregate gives does not depend on the order of what comes
pub given-orderless : (g : Absorbed) (l m : List KeptRec) → IsReordered l m → IsReordered (given g l) (given g m)
given-orderless g l m h f =
    ap (λ rows. sum_by f (at_least g.closed rows))
    (aggregate_rows-orderless g.agg g.windows (g.records ++ all_records l) (g.records ++ all_records m)
    (IsReordered-append g.records g.records (all_records l) (all_records m) (λ f. refl)
    (IsReordered-map (λ (e : KeptRec). e.rec) l m h)))
