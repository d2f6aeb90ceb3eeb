use Rattle.std.proofs.Common.{◌++◌, sym, ap, ◌∙◌}
use Rattle.std.specs.Ordering.{int_cmp}
use Rattle.sb_runs.specs.records.Orders.{distinct}
use Rattle.sb_aggregate.specs.Held.{set_values}
use Rattle.sb_windowed.specs.declared.aggregate.Agg.TheVariants.{Distinct}
use Rattle.sb_aggregate.proofs.PartialValues.{join_values-swapped}
use Rattle.sb_aggregate.proofs.value_set.ValueSet.with_all.Goals as goal

pub returns-in_ok-with_values-in-Listed-Grown : goal.returns-in_ok-with_values-in-Listed-Grown
returns-in_ok-with_values-in-Listed-Grown c =
    c.in_ok-with_values-in-Listed-Grown.ensures
    ∙ ap (λ l. distinct int_cmp (c.in-Listed-Grown.set.keys ++ l)) c.into_list.ensures
    ∙ join_values-swapped Distinct c.in-Listed-Grown.set.keys c.in-Listed-Grown.list
    ∙ (λ i. distinct int_cmp (set_values (sym c.in-Listed-Grown.is-0 i) ++ set_values (sym c.in-Listed-Grown.is-1 i)))
