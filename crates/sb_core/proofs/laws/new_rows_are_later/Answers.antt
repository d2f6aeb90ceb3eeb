use Rattle.sb_core.proofs.parts.NewRowsLaw.{new-rows_are_later}
use Rattle.sb_core.proofs.laws.new_rows_are_later.Goals as goal

pub returns : goal.returns
returns c = new-rows_are_later
