use Rattle.std.proofs.Common.{◌≡◌, SFits, rules, [], ◌∷◌, ◌++◌, insert, w64, to_z, of_z, sym, ap, subst, ◌∙◌}
use Rattle.std.specs.Cmp.{int_cmp_total}
use Rattle.std.specs.List.Sorted.{IsStrictlySortedBy}
use Rattle.std.specs.Ordering.{int_cmp}
use Rattle.std.proofs.lemmas.Int.{to_z-of_z}
use Rattle.std.proofs.lemmas.Map.Lookups.{exact_signed}
use Rattle.sb_runs.specs.records.Orders.{distinct}
use Rattle.sb_runs.proofs.records.Distinct.{distinct-sorted}
use Rattle.sb_aggregate.proofs.SortedLists.{rises, distinct-placed, distinct-there}
use Rattle.sb_aggregate.proofs.sorted_list.SortedList.insert.Goals as goal

pub invariant_of-self : goal.invariant_of-self
invariant_of-self c =
    let fits : SFits w64 c.args.value = search rules in
    let e : c.deref.result.now ≡ c.self.inside.values.items = search rules in
    let xs = c.deref.result.now in
    let v = to_z w64 (of_z w64 c.args.value) in
    let same = to_z-of_z w64 c.args.value fits in
    let up : IsStrictlySortedBy int_cmp c.deref.result.now = subst (IsStrictlySortedBy int_cmp) (sym e) c.self.invariant in
    subst (IsStrictlySortedBy int_cmp)
    (sym (c.in_ok-insert.ensures.items ∙ (λ t. insert (sym e t) c.in-Err.place v)
    ∙ distinct-placed int_cmp_total exact_signed v xs c.in-Err.place up c.in-Err.ensures.bound (c.in-Err.ensures.position (rises int_cmp_total v xs up)) ∙ ap (λ w. distinct int_cmp (xs ++ w ∷ [])) same))
    (distinct-sorted int_cmp_total (xs ++ c.args.value ∷ []))

pub returns-in_ok-insert : goal.returns-in_ok-insert
returns-in_ok-insert c =
    let fits : SFits w64 c.args.value = search rules in
    let e : c.deref.result.now ≡ c.self.inside.values.items = search rules in
    let xs = c.deref.result.now in
    let v = to_z w64 (of_z w64 c.args.value) in
    let same = to_z-of_z w64 c.args.value fits in
    let up : IsStrictlySortedBy int_cmp c.deref.result.now = subst (IsStrictlySortedBy int_cmp) (sym e) c.self.invariant in
    c.in_ok-insert.ensures.items ∙ (λ t. insert (sym e t) c.in-Err.place v)
    ∙ distinct-placed int_cmp_total exact_signed v xs c.in-Err.place up c.in-Err.ensures.bound (c.in-Err.ensures.position (rises int_cmp_total v xs up)) ∙ ap (λ w. distinct int_cmp (xs ++ w ∷ [])) same
    ∙ ap (λ l. distinct int_cmp (l ++ c.args.value ∷ [])) (e ∙ c.self.view_is)

pub returns-in_default : goal.returns-in_default
returns-in_default c =
    let fits : SFits w64 c.args.value = search rules in
    let e : c.deref.result.now ≡ c.self.inside.values.items = search rules in
    let xs = c.deref.result.now in
    let v = to_z w64 (of_z w64 c.args.value) in
    let same = to_z-of_z w64 c.args.value fits in
    let up : IsStrictlySortedBy int_cmp c.deref.result.now = subst (IsStrictlySortedBy int_cmp) (sym e) c.self.invariant in
    sym c.self.view_is ∙ sym e
    ∙ distinct-there int_cmp_total exact_signed v xs c.in_default.field-0 up c.in_default.ensures.bound c.in_default.ensures.ok
    ∙ ap (λ w. distinct int_cmp (xs ++ w ∷ [])) same
    ∙ ap (λ l. distinct int_cmp (l ++ c.args.value ∷ [])) (e ∙ c.self.view_is)
