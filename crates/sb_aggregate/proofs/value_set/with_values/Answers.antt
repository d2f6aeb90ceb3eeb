use Rattle.std.proofs.Common.{OnOk, map-id, sym, subst, ◌∙◌}
use Rattle.std.specs.BTreeSet.{InsertsAll}
use Rattle.std.specs.Ordering.{int_cmp}
use Rattle.std.proofs.lemmas.Iterator.Adapters.{YieldsList-from_vec, fact_from_extend}
use Rattle.sb_aggregate.proofs.Unions.{distinct-inserted}
use Rattle.sb_aggregate.proofs.value_set.with_values.Goals as goal

pub returns : goal.returns
returns c =
    let ran =
    fact_from_extend (λ x. x) c.extend.result c.extend.ensures.ran (λ it b. YieldsList-from_vec {s = it} _ b.0 (b.1 ∙ c.args.values.ok.0))
    (λ xs e h. subst (λ ys. InsertsAll int_cmp c.args.set ys c.extend.new.self) (sym (map-id xs) ∙ e) h) in
    distinct-inserted c.args.set c.extend.new.self c.args.values.items
    (subst (λ r. OnOk r (InsertsAll int_cmp c.args.set c.args.values.items c.extend.new.self)) c.in_ok-extend.was ran)
