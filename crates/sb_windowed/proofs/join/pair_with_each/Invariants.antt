use Rattle.std.proofs.Common.{◌≡◌, ◌+◌, ◌≤◌, ◌++◌, map, take}
use Rattle.std.specs.Vec.{vec_len, vec_capacity}
use Rattle.sb_windowed.specs.Joins.{pair_value}
use Rattle.sb_windowed.proofs.join.pair_with_each.Given as goal

abbrev pub invariant-loop-y : goal.invariant-loop-y
invariant-loop-y l =
    (l.into.items ≡ l.initial.into.items ++ map (pair_value l.combine l.left) (take l.y-index l.right))
    × (vec_len l.into ≡ vec_len l.initial.into + l.y-index)
    × (vec_capacity l.initial.into ≤ vec_capacity l.into)
