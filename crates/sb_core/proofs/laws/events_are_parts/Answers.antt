use Rattle.sb_core.proofs.parts.PartsLaw.{events-are_parts}
use Rattle.sb_core.proofs.laws.events_are_parts.Goals as goal

pub returns : goal.returns
returns c = events-are_parts
