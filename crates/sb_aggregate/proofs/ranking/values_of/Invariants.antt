use Rattle.std.proofs.Common.{◌≡◌, map, take}
use Rattle.sb_aggregate.specs.Numbers.{ranked}
use Rattle.sb_aggregate.proofs.ranking.values_of.Given as goal

abbrev pub invariant-loop-rank : goal.invariant-loop-rank
invariant-loop-rank l = l.values.items ≡ map (ranked l.numbers) (take l.rank-index l.ranks)
