use Rattle.std.proofs.Common.{append-nil, sym, ap, ◌∙◌}
use Rattle.std.proofs.lemmas.Result.{on_ok_weaker}
use Rattle.sb_window.specs.Gatherings.{joined_value}
use Rattle.sb_runs.specs.Runs.{found, found_in}
use Rattle.sb_runs.proofs.FoundIn.{found_in-last, found_in-with_run}
use Rattle.sb_runs.proofs.runs.stack_up.Goals as goal

pub small-preserved : goal.small-preserved
small-preserved g c q =
    let join = g.J.Joiner.joined c.args.joiner.now in
    found_in-last join c.requires c.pop_small.new.stack.items c.in-Some.last c.small.top c.in_ok-top.top c.in_ok-top.ensures q
    ∙ ap (λ rs. joined_value join (found_in join rs q) (found c.small.top q)) (sym c.in-Some.ensures.items)
    ∙ c.small.invariant q

pub returns-clause-joined : goal.returns-clause-joined
returns-clause-joined g c =
    let join = g.J.Joiner.joined c.args.joiner.now in
    on_ok_weaker c.keep.result
    (λ items q.
    ap (λ rs. found_in join rs q) items
    ∙ found_in-with_run join c.requires c.pop_small.new.stack.items c.small.top q
    ∙ ap (λ rs. joined_value join (found_in join rs q) (found c.small.top q)) (sym (append-nil c.pop_small.new.stack.items) ∙ sym c.in_default.ensures.items)
    ∙ c.small.invariant q)
    c.keep.ensures.items
