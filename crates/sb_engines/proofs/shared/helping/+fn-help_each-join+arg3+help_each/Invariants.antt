use Rattle.std.proofs.Common.{length}
use Rattle.sb_engines.proofs.shared.helping.+fn-help_each-join+arg3+help_each.Given as goal

abbrev pub decreases-join+arg3 : goal.decreases-join+arg3
decreases-join+arg3 g l = length l.passes.items

abbrev pub decreases-help_each : goal.decreases-help_each
decreases-help_each g l = length l.passes.items
