use Rattle.sb_windowed.proofs.SessionRows.{closed_sessions-final}
use Rattle.sb_windowed.proofs.laws.closed_sessions_are_final.Goals as goal

pub returns : goal.returns
returns c = closed_sessions-final
