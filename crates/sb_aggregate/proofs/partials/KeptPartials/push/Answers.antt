use Rattle.std.proofs.Common.{sym, ap, ◌∙◌}
use Rattle.sb_runs.specs.window.Gatherings.{joined_value}
use Rattle.sb_runs.specs.Runs.{found, found_in}
use Rattle.sb_aggregate.specs.Held.{run_of, runs_of}
use Rattle.sb_aggregate.specs.Partials.{join_values}
use Rattle.sb_aggregate.proofs.PartialValues.{join_values-grouped}
use Rattle.sb_aggregate.proofs.partials.KeptPartials.push.Goals as goal

pub push-requires : goal.push-requires
push-requires c = join_values-grouped c.in-Single-Single-Some.joiner

pub push-requires-in_default : goal.push-requires-in_default
push-requires-in_default c = join_values-grouped c.args.agg

pub returns-in_ok-push-in-Single-Single-Some : goal.returns-in_ok-push-in-Single-Single-Some
returns-in_ok-push-in-Single-Single-Some c q =
    let same = c.in-Single-Single-Some.ensures.joiner in
    let kept = ap runs_of (sym c.in-Single-Single-Some.is-0 ∙ c.replace-kept.ensures.value) in
    let part = ap run_of (sym c.in-Single-Single-Some.is-1) in
    (λ i. found_in (join_values (sym same i)) c.push.new.self q)
    ∙ c.in_ok-push-in-Single-Single-Some.ensures q
    ∙ (λ i. joined_value (join_values (same i)) (found_in (join_values (same i)) (kept i) q) (found (part i) q))
