use Rattle.sb_windowed.proofs.SessionEnds.{last-ends}
use Rattle.sb_windowed.proofs.laws.last_records_end_sessions.Goals as goal

pub returns : goal.returns
returns c = last-ends
