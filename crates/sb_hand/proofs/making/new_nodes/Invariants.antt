use Rattle.sb_hand.specs.NewNodes.{AreNewNodes}
use Rattle.sb_hand.proofs.making.new_nodes.Given as goal

abbrev pub invariant-loop-node : goal.invariant-loop-node
invariant-loop-node l = AreNewNodes l.plan l.pending l.keeps l.node l.nodes.items
