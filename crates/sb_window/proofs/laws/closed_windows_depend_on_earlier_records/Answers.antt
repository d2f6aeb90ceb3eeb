use Rattle.sb_window.proofs.Rows.{rows_by-before}
use Rattle.sb_window.proofs.laws.closed_windows_depend_on_earlier_records.Goals as goal

pub returns : goal.returns
returns c = rows_by-before
