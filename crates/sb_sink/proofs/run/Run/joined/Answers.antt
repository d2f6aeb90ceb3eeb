use Rattle.std.proofs.Common.{◌++◌, List, subst, sym, ap, ◌∙◌}
use Rattle.std.specs.List.{sum_by}
use Rattle.std.proofs.lemmas.List.Sorted.{sum_by-IsPermutation}
use Rattle.sb_window.specs.records.declared.item.Record.{Record}
use Rattle.sb_window.specs.records.Orders.{IsAscending}
use Rattle.sb_window.specs.records.Records.{record_cmp}
use Rattle.sb_sink.proofs.Runs.{up-sorted}
use Rattle.sb_sink.proofs.run.Run.joined.Goals as goal

pub invariant_of-result-2 : goal.invariant_of-result-2
invariant_of-result-2 c =
    subst (λ (x : List Record). IsAscending record_cmp x) (sym c.from_vec.ensures.items) (up-sorted c.sort.new.self.items c.in_ok-sort.ensures.sorted)

pub returns : goal.returns
returns c f =
    ap (sum_by f) c.from_vec.ensures.items
    ∙ sum_by-IsPermutation f c.append-2.new.self.items c.sort.new.self.items c.in_ok-sort.ensures.permutation
    ∙ ap (sum_by f) (c.in_ok-append-2.ensures.items ∙ (λ i. (c.into_vec-rows.ensures.items ∙ c.self.view_is) i ++ (c.into_vec-others.ensures.items ∙ c.later.view_is) i))
