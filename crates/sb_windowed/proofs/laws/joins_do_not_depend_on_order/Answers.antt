use Rattle.sb_windowed.proofs.Pairs.{joins-orderless}
use Rattle.sb_windowed.proofs.laws.joins_do_not_depend_on_order.Goals as goal

pub returns : goal.returns
returns c = joins-orderless
