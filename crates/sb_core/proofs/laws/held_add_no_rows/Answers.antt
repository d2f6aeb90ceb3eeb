use Rattle.sb_core.proofs.parts.NewRowsLaw.{held-add_no_rows}
use Rattle.sb_core.proofs.laws.held_add_no_rows.Goals as goal

pub returns : goal.returns
returns c = held-add_no_rows
