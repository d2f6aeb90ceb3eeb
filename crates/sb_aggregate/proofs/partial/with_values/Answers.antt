use Rattle.std.proofs.Common.{◌≡◌, ◌∷◌, [], IfOk, SFits, w64, rules, sym, subst, ap, ◌∙◌}
use Rattle.std.proofs.lemmas.Int.{to_z-of_z}
use Rattle.sb_aggregate.specs.Held.{held_values}
use Rattle.sb_aggregate.specs.Partials.{join_values}
use Rattle.sb_aggregate.specs.declared.partial.Held.{Held}
use Rattle.sb_aggregate.proofs.PartialValues.{join_values-swapped}
use Rattle.sb_aggregate.proofs.partial.with_values.Goals as goal

pub returns-in_default-One-default : goal.returns-in_default-One-default
returns-in_default-One-default c =
    let v = c.in_default-One-default.value in
    let fits : SFits w64 c.in_default-One-default.value = search rules in
    let more = held_values c.args.more in
    subst (λ l. IfOk c.with_value.result (λ (h : Held). held_values h ≡ l))
    (ap (λ w. join_values c.args.agg more (w ∷ [])) (to_z-of_z w64 v fits)
    ∙ join_values-swapped c.args.agg more (v ∷ [])
    ∙ ap (λ h. join_values c.args.agg (held_values h) more) (sym c.in_default-One-default.is-1)) c.with_value.ensures
