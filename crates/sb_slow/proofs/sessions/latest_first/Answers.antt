use Rattle.std.proofs.Common.{rules, ap, ◌∙◌}
use Rattle.std.specs.Ordering.{is_lt, flip_args}
use Rattle.std.specs.Prelude.{sum_by}
use Rattle.std.proofs.lemmas.Cmp.{back_total}
use Rattle.std.proofs.lemmas.Fn.{always_returns_same}
use Rattle.std.proofs.lemmas.List.Sorted.{ranks_by, sum_by-IsPermutation}
use Rattle.sb_base.proofs.records.Sorting.{ascending-from_sorted}
use Rattle.sb_slow.specs.SessionEnds as spec
use Rattle.sb_slow.proofs.Walking.{keyed_times_total}
use Rattle.sb_slow.proofs.sessions.latest_first.Goals as goal

pub returns : goal.returns
returns c =
    record {
      down = ascending-from_sorted (back_total keyed_times_total) c.sort_unstable_by.new.self.items
          (c.sort_unstable_by.ensures.sorted (λ x y. is_lt (flip_args spec.keyed_time_cmp x y)) (ranks_by (back_total keyed_times_total) (λ x. x)) (always_returns_same _ _ _ (λ a r f k. search rules)));
      same = λ f. sum_by-IsPermutation f _ _ c.sort_unstable_by.ensures.permutation ∙ ap (sum_by f) c.in_ok-times.ensures;
    }
