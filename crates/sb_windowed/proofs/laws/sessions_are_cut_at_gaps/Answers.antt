use Rattle.sb_windowed.proofs.SessionEnds.{sessions-cut}
use Rattle.sb_windowed.proofs.laws.sessions_are_cut_at_gaps.Goals as goal

pub returns : goal.returns
returns c = sessions-cut
