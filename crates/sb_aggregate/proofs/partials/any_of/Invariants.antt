use Rattle.std.proofs.Common.{◌≡◌, ◌++◌, map}
use Rattle.std.specs.VecDeque.Iter.{deque_iter_rest}
use Rattle.sb_aggregate.specs.Numbers.{single_entry}
use Rattle.sb_aggregate.proofs.partials.any_of.Given as goal

abbrev pub invariant-loop-single : goal.invariant-loop-single
invariant-loop-single l = l.kept.items ++ map single_entry (deque_iter_rest l.single-iterator) ≡ l.fn.run
