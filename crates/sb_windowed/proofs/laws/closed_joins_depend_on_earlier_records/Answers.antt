use Rattle.sb_windowed.proofs.Pairs.{joins-before}
use Rattle.sb_windowed.proofs.laws.closed_joins_depend_on_earlier_records.Goals as goal

pub returns : goal.returns
returns c = joins-before
