use Rattle.std.proofs.Common.{List, subst, sym, ap, ◌∙◌}
use Rattle.std.specs.List.{sum_by}
use Rattle.std.proofs.lemmas.List.Sorted.{sum_by-IsPermutation}
use Rattle.sb_window.specs.records.declared.item.Record.{Record}
use Rattle.sb_window.specs.records.Orders.{IsAscending}
use Rattle.sb_window.specs.records.Records.{record_cmp}
use Rattle.sb_sink.proofs.Runs.{up-sorted}
use Rattle.sb_sink.proofs.run.Run.of.Goals as goal

pub invariant_of-result : goal.invariant_of-result
invariant_of-result c =
    subst (λ (x : List Record). IsAscending record_cmp x) (sym c.from_vec.ensures.items) (up-sorted c.sort_unstable.new.self.items c.sort_unstable.ensures.sorted)

pub returns : goal.returns
returns c f =
    ap (sum_by f) c.from_vec.ensures.items
    ∙ sum_by-IsPermutation f c.args.rows.items c.sort_unstable.new.self.items c.sort_unstable.ensures.permutation
