use Rattle.std.proofs.lemmas.List.Sorted.{sum_by-IsPermutation}
use Rattle.sb_runs.proofs.records.Sorting.{records_total, ascending-from_sorted, sorted-unique}
use Rattle.sb_join.proofs.rows.sort_rows.Goals as goal

pub returns : goal.returns
returns c =
    sorted-unique c.sort_unstable.new.self.items c.args.rows.now.items (ascending-from_sorted records_total c.sort_unstable.new.self.items c.sort_unstable.ensures.sorted)
    (λ f. sum_by-IsPermutation f c.args.rows.now.items c.sort_unstable.new.self.items c.sort_unstable.ensures.permutation)
