use Rattle.sb_core.proofs.parts.PartsLaw.{held-parts_are_events}
use Rattle.sb_core.proofs.laws.held_parts_are_events.Goals as goal

pub returns : goal.returns
returns c = held-parts_are_events
