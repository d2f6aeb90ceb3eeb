use Rattle.std.proofs.Common.{cond, None, sym, ap, ◌∙◌}
use Rattle.std.specs.Prelude.{nat_lt}
use Rattle.std.proofs.lemmas.Result.{IfOk-weaker}
use Rattle.sb_runs.specs.Merged.{merged}
use Rattle.sb_runs.specs.records.Records.{sorted_records}
use Rattle.sb_runs.specs.window.Gatherings.{rows_of_entries}
use Rattle.sb_runs.specs.Runs.{found_in}
use Rattle.sb_aggregate.specs.Held.{runs_of}
use Rattle.sb_aggregate.specs.Partials.{final_values, join_values}
use Rattle.sb_aggregate.proofs.PartialValues.{join_values-grouped}
use Rattle.sb_aggregate.proofs.partials.KeptPartials.close.Goals as goal

pub close-requires : goal.close-requires
close-requires c = join_values-grouped c.in-Single-Some.joiner

pub close-requires-in_default : goal.close-requires-in_default
close-requires-in_default c = join_values-grouped c.args.agg

pub returns-in_ok-closed-in-Single-Some-clause-closed : goal.returns-in_ok-closed-in-Single-Some-clause-closed
returns-in_ok-closed-in-Single-Some-clause-closed c =
    let same = c.in-Single-Some.ensures.joiner in
    let kept = ap runs_of (sym c.in-Single-Some.is-0 ∙ c.replace-kept.ensures.value) in
    let closed = c.in_ok-closed-in-Single-Some.closed in
    let run = merged (join_values c.in-Single-Some.joiner) closed.0 closed.1 in
    IfOk-weaker c.rows_of_singles.result _ _
    (λ rows h. (
      run,
      c.in_ok-closed-in-Single-Some.ensures.run,
      (λ q. c.in_ok-closed-in-Single-Some.ensures.closed q ∙ (λ i. cond (nat_lt c.args.mark q.end) None (found_in (join_values (same i)) (kept i) q))),
      h ∙ (λ i. sorted_records (rows_of_entries (final_values (same i)) run)),
    ))
    c.rows_of_singles.ensures

pub returns-in_ok-closed-in-Single-Some-clause-opened : goal.returns-in_ok-closed-in-Single-Some-clause-opened
returns-in_ok-closed-in-Single-Some-clause-opened c =
    let same = c.in-Single-Some.ensures.joiner in
    let kept = ap runs_of (sym c.in-Single-Some.is-0 ∙ c.replace-kept.ensures.value) in
    IfOk-weaker c.rows_of_singles.result _ _
    (λ rows h q.
    (λ i. found_in (join_values (sym same i)) c.close.new.self q)
    ∙ c.in_ok-closed-in-Single-Some.ensures.opened q
    ∙ (λ i. cond (nat_lt c.args.mark q.end) (found_in (join_values (same i)) (kept i) q) None))
    c.rows_of_singles.ensures
