use Rattle.std.proofs.Common.{◌≡◌, ◌+◌, ◌*◌, ◌≤◌, ◌++◌, length, take}
use Rattle.std.specs.Vec.{vec_len, vec_capacity}
use Rattle.sb_windowed.specs.Joins.{pair_values}
use Rattle.sb_windowed.proofs.join.pair_values.Given as goal

abbrev pub invariant-loop-x : goal.invariant-loop-x
invariant-loop-x l =
    (l.into.items ≡ l.initial.into.items ++ pair_values l.combine (take l.x-index l.left) l.right)
    × (vec_len l.into ≡ vec_len l.initial.into + l.x-index * length l.right)
    × (vec_capacity l.initial.into ≤ vec_capacity l.into)
    × (l.before ≡ vec_len l.initial.into)
