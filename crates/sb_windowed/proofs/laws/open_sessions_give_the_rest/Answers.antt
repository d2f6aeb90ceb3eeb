use Rattle.sb_windowed.proofs.SessionRows.{open_sessions-rest}
use Rattle.sb_windowed.proofs.laws.open_sessions_give_the_rest.Goals as goal

pub returns : goal.returns
returns c = open_sessions-rest
