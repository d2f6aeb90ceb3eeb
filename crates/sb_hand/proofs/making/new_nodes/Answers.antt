use Rattle.std.proofs.Common.{◌≡◌, ◌+◌, [], ◌∷◌, ◌++◌, rules, sym, subst}
use Rattle.sb_hand.specs.NewNodes.{AreNewNodes}
use Rattle.sb_hand.proofs.NewHands.{one-made}
use Rattle.sb_hand.proofs.making.new_nodes.Goals as goal

pub loop-node-preserved : goal.loop-node-preserved
loop-node-preserved c =
    let own = c.in_ok-own.own in
    let pushed : c.push.new.self.items ≡ c.loop-node.nodes.items ++ own ∷ [] = search rules in
    subst (AreNewNodes c.args.plan.now c.args.pending c.args.keeps (c.loop-node.node + 1)) (sym pushed)
    (one-made c.args.plan.now c.args.pending c.args.keeps c.loop-node.node c.loop-node.nodes.items own c.loop-node.invariant c.in_ok-own.ensures)
