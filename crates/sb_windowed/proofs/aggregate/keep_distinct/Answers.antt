use Rattle.std.proofs.Common.{◌∙◌, arith}
use Rattle.std.specs.Ordering.{int_eq}
use Rattle.std.proofs.lemmas.Int.{ints}
use Rattle.std.specs.Cmp.{int_cmp_total}
use Rattle.std.proofs.lemmas.List.Filters.{dedup_is}
use Rattle.std.proofs.lemmas.List.Sorted.{sum_by-IsPermutation}
use Rattle.std.proofs.lemmas.Map.Lookups.{exact_signed}
use Rattle.sb_window.proofs.records.Different.{dedup-distinct}
use Rattle.sb_windowed.proofs.aggregate.keep_distinct.Goals as goal

pub returns : goal.returns
returns c =
    dedup_is _ _ _ c.dedup.ensures.filtered
    ∙ dedup-distinct int_cmp_total exact_signed int_eq (λ x y. grind (arith, ints)) c.args.values.now.items c.sort_unstable.new.self.items c.sort_unstable.ensures.sorted
    (λ f. sum_by-IsPermutation f _ _ c.sort_unstable.ensures.permutation)
