use Rattle.sb_windowed.proofs.Orderless.{aggregate_rows-orderless}
use Rattle.sb_windowed.proofs.laws.aggregate_rows_do_not_depend_on_order.Goals as goal

pub returns : goal.returns
returns c = aggregate_rows-orderless
