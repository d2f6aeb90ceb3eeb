use Rattle.std.proofs.Common.{rules}
use Rattle.std.specs.Ordering.{is_lt, int_cmp, flip_args}
use Rattle.std.proofs.lemmas.Fn.{always_returns_same}
use Rattle.std.proofs.lemmas.List.Sorted.{ranks_by, sum_by-IsPermutation}
use Rattle.sb_window.proofs.records.Firsts.{sort-in_order}
use Rattle.sb_windowed.proofs.Orderless.{greatest_total, exact_greatest}
use Rattle.sb_windowed.proofs.aggregate.sort_greatest_first.Goals as goal

pub returns : goal.returns
returns c =
    sort-in_order greatest_total exact_greatest c.args.values.now.items c.sort_unstable_by.new.self.items
    (c.sort_unstable_by.ensures.sorted (λ x y. is_lt (flip_args int_cmp x y)) (ranks_by greatest_total (λ x. x)) (always_returns_same _ _ _ (λ a r f k. search rules)))
    (λ f. sum_by-IsPermutation f _ _ c.sort_unstable_by.ensures.permutation)
