use Rattle.std.proofs.Common.{◌≡◌, take}
use Rattle.sb_core.specs.Moments
use Rattle.sb_machine.proofs.machine.first.Given as goal

abbrev pub invariant-loop-node : goal.invariant-loop-node
invariant-loop-node l = l.nodes.items ≡ take l.node (Moments.first l.plan l.bundle).nodes
