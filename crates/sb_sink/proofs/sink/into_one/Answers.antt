use Rattle.std.proofs.Common.{◌++◌, sym, ap, ◌∙◌}
use Rattle.std.specs.List.{sum_by}
use Rattle.sb_sink.specs.Runs.{records_in}
use Rattle.sb_sink.proofs.Runs.{last-joined}
use Rattle.sb_sink.proofs.sink.into_one.Goals as goal

pub runs-preserved : goal.runs-preserved
runs-preserved c f =
    last-joined c.pop.new.self.items c.in-Some.last c.runs.all c.in_ok-all.all c.in_ok-all.ensures f
    ∙ ap (λ rs. sum_by f (records_in rs ++ c.runs.all)) (sym c.in-Some.ensures.items)
    ∙ c.runs.invariant f
