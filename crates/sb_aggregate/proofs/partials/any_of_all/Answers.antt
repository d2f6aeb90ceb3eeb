use Rattle.std.proofs.Common.{sym, ap, ◌∙◌}
use Rattle.sb_runs.specs.window.Gatherings.{joined_value}
use Rattle.sb_runs.specs.Runs.{found, found_in}
use Rattle.sb_runs.proofs.FoundIn.{found_in-first}
use Rattle.sb_aggregate.specs.Partials.{join_values}
use Rattle.sb_aggregate.proofs.PartialValues.{join_values-grouped}
use Rattle.sb_aggregate.proofs.partials.any_of_all.Goals as goal

pub push-requires : goal.push-requires
push-requires c = join_values-grouped c.args.agg

pub runs-preserved : goal.runs-preserved
runs-preserved c q =
    let join = join_values c.args.agg in
    found_in-first join (join_values-grouped c.args.agg) c.runs.all c.push.new.self c.in-Some.run' c.pop_front.new.self.items
    (λ p. c.in_ok-push.ensures p ∙ ap (λ run. joined_value join (found_in join c.runs.all p) (found run p)) c.in_ok-any_of.ensures) q
    ∙ ap (λ rs. joined_value join (found_in join c.runs.all q) (found_in join rs q)) (sym c.in-Some.ensures.items)
    ∙ c.runs.invariant q
