use Rattle.std.proofs.Common.{◌≡◌, ℤ, List, [], ◌∷◌, ◌++◌, Option, Some, unwrap_or, rules, subst, ap, ◌∙◌}
use Rattle.std.specs.BTreeMap.{get, Updates}
use Rattle.std.specs.BTreeMap.Entry.{map_with_value}
use Rattle.sb_base.specs.window.Windows.{keyed_window_cmp}
use Rattle.sb_slow.specs.Gathered.{values_with}
use Rattle.sb_slow.proofs.Pushed.{Some-pushed}
use Rattle.sb_slow.proofs.gather.add_value.Goals as goal

pub returns : goal.returns
returns c =
    let value = c.args.record.now.value in
    let old = get keyed_window_cmp c.args.values.now c.args.window in
    let was : c.or_insert-list.result.now ≡ unwrap_or (get keyed_window_cmp c.args.values.now c.args.window) [] =
    c.or_insert-list.ensures.value ∙ (λ i. unwrap_or (c.in_ok-values.ensures.value i) ((c.new-2.ensures ∙ c.new.ensures.items) i)) in
    let now : ◌≡◌ {A = Option (List ℤ)} (Some c.push_value.new.values) (values_with old (Some (value ∷ []))) =
    ap (λ vs. Some vs) (c.in_ok-push_value.ensures ∙ ap (λ vs. vs ++ value ∷ []) was) ∙ Some-pushed old value in
    let updates : Updates keyed_window_cmp c.args.values.now (map_with_value c.in_ok-values.field-0 c.push_value.new.values) c.args.window (values_with old (Some (value ∷ []))) =
    subst (λ (o : Option (List ℤ)). Updates keyed_window_cmp c.args.values.now (map_with_value c.in_ok-values.field-0 c.push_value.new.values) c.args.window o) now (c.in_ok-values.ensures.update.0 c.push_value.new.values) in
    λ q. search (rules, updates.0 q)
