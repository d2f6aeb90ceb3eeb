use Rattle.sb_live.proofs.Rises.{first_sorted_rise}
use Rattle.sb_live.proofs.laws.first_sorted_rows_rise.Goals as goal

pub returns : goal.returns
returns c = first_sorted_rise
