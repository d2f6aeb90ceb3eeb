use Rattle.std.proofs.Common.{[], ◌∷◌, SFits, w64, rules, sym, ap, ◌∙◌}
use Rattle.std.proofs.lemmas.Int.{to_z-of_z}
use Rattle.std.proofs.lemmas.Result.{on_ok_weaker}
use Rattle.sb_runs.specs.records.declared.key.Key.TheVariants.{Number}
use Rattle.sb_runs.specs.window.Gatherings.{joined_value}
use Rattle.sb_runs.specs.Runs.{found}
use Rattle.sb_aggregate.specs.Partials.{join_values}
use Rattle.sb_aggregate.proofs.Singles.{one-is-single}
use Rattle.sb_aggregate.proofs.placing.add_single.Goals as goal

pub returns : goal.returns
returns c =
    let joiner = c.args.joiner.now in
    let fits : SFits w64 c.args.value = search rules in
    on_ok_weaker c.add.result
    (λ h q.
    h q ∙ ap (λ vs. joined_value (join_values joiner) (found c.args.run.now q) (found ((record { end = c.args.end; key = Number c.args.key }, vs) ∷ []) q))
    (ap (λ v. v ∷ []) (to_z-of_z w64 c.args.value fits) ∙ sym (one-is-single joiner c.requires c.args.value fits)))
    c.add.ensures
