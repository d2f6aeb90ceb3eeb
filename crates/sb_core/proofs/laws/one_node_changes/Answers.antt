use Rattle.sb_core.proofs.parts.ByParts.{one-node_changes}
use Rattle.sb_core.proofs.laws.one_node_changes.Goals as goal

pub returns : goal.returns
returns c = one-node_changes
