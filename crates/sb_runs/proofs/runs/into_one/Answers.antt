use Rattle.std.proofs.Common.{sym, ap, ◌∙◌}
use Rattle.sb_window.specs.Gatherings.{joined_value}
use Rattle.sb_runs.specs.Runs.{found, found_in}
use Rattle.sb_runs.proofs.FoundIn.{found_in-last}
use Rattle.sb_runs.proofs.runs.into_one.Goals as goal

pub runs-preserved : goal.runs-preserved
runs-preserved g c q =
    let join = g.J.Joiner.joined c.args.joiner.now in
    found_in-last join c.requires c.pop_back.new.self.items c.in-Some.last c.runs.all c.in_ok-all.all c.in_ok-all.ensures q
    ∙ ap (λ rs. joined_value join (found_in join rs q) (found c.runs.all q)) (sym c.in-Some.ensures.items)
    ∙ c.runs.invariant q
