use Rattle.std.proofs.Common.{◌≡◌, ◌++◌, ◌+◌, ◌^◌, ◌<◌, map}
use Rattle.std.specs.List.{AllByRecursion}
use Rattle.std.specs.VecDeque.Iter.{deque_iter_rest}
use Rattle.sb_runs.specs.Runs.{shifted_by}
use Rattle.sb_runs.proofs.entries.Entries.later.Given as goal

abbrev pub invariant-loop-entry : goal.invariant-loop-entry
invariant-loop-entry g l = let left = map g.J.Joiner.seen (deque_iter_rest l.entry-iterator) in record {
  made : map g.J.Joiner.seen l.kept.items ++ shifted_by l.by left ≡ shifted_by l.by l.self;
  low : AllByRecursion (λ e. e.0.end + l.by < 2 ^ 64) left;
}
