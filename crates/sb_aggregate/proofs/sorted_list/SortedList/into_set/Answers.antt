use Rattle.std.proofs.Common.{map-id, sym, subst, ◌∙◌}
use Rattle.std.specs.BTreeSet.{IsFromIterResult}
use Rattle.std.specs.Ordering.{int_cmp}
use Rattle.std.proofs.lemmas.Iterator.{items_from_drains}
use Rattle.std.proofs.lemmas.Iterator.Adapters.{YieldsList-from_vec}
use Rattle.sb_aggregate.proofs.Unions.{keys-collected}
use Rattle.sb_aggregate.proofs.sorted_list.SortedList.into_set.Goals as goal

pub returns : goal.returns
returns c =
    let values = c.self.inside.values in
    let ran = c.in_ok-set.ensures.ran in
    let all = sym (map-id ran.1) ∙ items_from_drains ran.1 ran.3 (YieldsList-from_vec {s = ran.0} values.items ran.2.0 (ran.2.1 ∙ values.ok.0)) in
    keys-collected c.in_ok-set.set values.items c.self.invariant (subst (λ xs. IsFromIterResult int_cmp xs c.in_ok-set.set) all ran.4) ∙ c.self.view_is
