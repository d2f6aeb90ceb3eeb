use Rattle.sb_windowed.proofs.Orderless.{aggregates-orderless}
use Rattle.sb_windowed.proofs.laws.aggregates_do_not_depend_on_order.Goals as goal

pub returns : goal.returns
returns c = aggregates-orderless
