use Rattle.std.proofs.Common.{rules, ◌∙◌, ◌+◌, ◌<◌, ap, drop, length}
use Rattle.turn_uses.specs.InHand.{hand}
use Rattle.turn_uses.proofs.Keeps.{lays, drop_next}
use Rattle.turn_uses.proofs.lay_all.Goals as goal

pub put-requires-clause-rule : goal.put-requires-clause-rule
put-requires-clause-rule c = let near : c.loop-i.i < length c.args.numbers.now.items = search rules in
    lays _ (Unit {0}) _ _ _ _ (drop (c.loop-i.i + 1) c.args.numbers.now.items) (c.loop-i.invariant.4 ∙ ap hand (drop_next c.args.numbers.now.items c.loop-i.i c.index.result.now near c.index.ensures))
