use Rattle.sb_core.proofs.parts.PartsLaw.{parts-are_events}
use Rattle.sb_core.proofs.laws.parts_are_events.Goals as goal

pub returns : goal.returns
returns c = parts-are_events
