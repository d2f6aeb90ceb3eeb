use Rattle.sb_window.proofs.Rows.{rows_by-orderless}
use Rattle.sb_window.proofs.laws.rows_do_not_depend_on_order.Goals as goal

pub returns : goal.returns
returns c = rows_by-orderless
