use Rattle.std.proofs.Common.{SFits, rules, ◌∷◌, [], ◌++◌, w64, to_z, of_z, sym, ap, ◌∙◌}
use Rattle.std.specs.Cmp.{int_cmp_total}
use Rattle.std.specs.Ordering.{int_cmp}
use Rattle.std.proofs.lemmas.Int.{to_z-of_z}
use Rattle.std.proofs.lemmas.Map.Lookups.{exact_signed}
use Rattle.sb_runs.specs.records.Orders.{distinct}
use Rattle.sb_runs.proofs.records.Different.{distinct-updated}
use Rattle.sb_aggregate.specs.Held.{set_values}
use Rattle.sb_aggregate.proofs.value_set.ValueSet.with_value.Goals as goal

pub returns-in_ok-insert-in-Grown : goal.returns-in_ok-insert-in-Grown
returns-in_ok-insert-in-Grown c =
    let fits : SFits w64 c.args.value = search rules in
    distinct-updated int_cmp_total exact_signed c.in-Grown.set c.insert-in-Grown.new.self (to_z w64 (of_z w64 c.args.value)) c.in_ok-insert-in-Grown.ensures.ordered c.in_ok-insert-in-Grown.ensures.updates.0
    ∙ ap (λ v. distinct int_cmp (c.in-Grown.set.keys ++ v ∷ [])) (to_z-of_z w64 c.args.value fits)
    ∙ (λ i. distinct int_cmp (set_values (sym c.in-Grown.is i) ++ c.args.value ∷ []))
