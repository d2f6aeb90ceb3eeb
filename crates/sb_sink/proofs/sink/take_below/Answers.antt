use Rattle.std.proofs.Common.{◌≡◌, ◌++◌, List, [], append-nil, subst, sym, ap, ◌∙◌}
use Rattle.std.specs.List.{sum_by}
use Rattle.std.proofs.lemmas.List.{nil_from_length}
use Rattle.sb_window.specs.records.declared.item.Record.{Record}
use Rattle.sb_window.specs.records.Orders.{IsAscending}
use Rattle.sb_window.specs.records.Records.{record_cmp, before}
use Rattle.sb_window.proofs.records.Sorting.{sorted-unique}
use Rattle.sb_sink.specs.Runs.{records_in}
use Rattle.sb_sink.proofs.sink.take_below.Goals as goal

pub returns-clause-rows : goal.returns-clause-rows
returns-clause-rows c =
    let closed = records_in c.loop-run.closed.items in
    let left = c.loop-run.run-iterator.rest in
    let none : left.items ≡ [] = nil_from_length left.items (sym left.ok.0 ∙ c.in-None.ensures.steps.0) in
    let is = c.into_rows.ensures.items in
    sorted-unique c.into_rows.result.items (before c.args.mark (records_in c.args.runs.now.items)) (subst (λ (l : List Record). IsAscending record_cmp l) (sym is) c.into_rows.ensures.ordered)
    (λ f.
    ap (sum_by f) is ∙ c.in_ok-rows.ensures f
    ∙ ap (sum_by f) (sym (append-nil closed) ∙ ap (λ rs. closed ++ before c.args.mark (records_in rs)) (sym none))
    ∙ c.loop-run.invariant.below f)
