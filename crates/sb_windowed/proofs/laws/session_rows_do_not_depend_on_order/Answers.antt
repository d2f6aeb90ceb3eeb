use Rattle.sb_windowed.proofs.SessionRows.{session_rows-orderless}
use Rattle.sb_windowed.proofs.laws.session_rows_do_not_depend_on_order.Goals as goal

pub returns : goal.returns
returns c = session_rows-orderless
