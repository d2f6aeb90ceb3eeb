use Rattle.std.proofs.Common.{rules, ap, ◌∙◌, suc}
use Rattle.sb_turn.specs.Turning.{lost_view}
use Rattle.sb_turn.proofs.Tells.{tries}
use Rattle.sb_turn.proofs.turns.Turns.wait.Goals as goal

pub attempt-requires-clause-fact : goal.attempt-requires-clause-fact
attempt-requires-clause-fact g c = g.met.K.Keep.found c.args.self.now.table.shared.key

pub loop-preserved : goal.loop-preserved
loop-preserved g c = let inv = c.loop.invariant in let now = c.in-Err.ensures.turn in
    (search rules, search rules, search rules, (suc inv.3.0, ap (λ m. m.0) now ∙ ap (lost_view c.args.node) inv.3.1 ∙ tries c.args.node inv.3.0 c.args.pass.now.me.0))
