use Rattle.std.proofs.Common.{◌≡◌, map, take}
use Rattle.sb_aggregate.specs.Numbers.{ranked}
use Rattle.sb_aggregate.proofs.ranking.ranks_of.Given as goal

abbrev pub invariant-loop-place : goal.invariant-loop-place
invariant-loop-place l = map (ranked l.numbers) l.ranks.items ≡ take l.place l.numbers
