use Rattle.sb_record.proofs.Sorting.{counts_tell}
use Rattle.sb_record.proofs.laws.counts_tell_reorderings.Goals as goal

pub returns : goal.returns
returns c = counts_tell
