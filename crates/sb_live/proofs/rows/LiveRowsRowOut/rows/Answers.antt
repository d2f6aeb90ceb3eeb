use Rattle.std.proofs.Common.{refl}
use Rattle.sb_live.proofs.Earlier.{shows_call}
use Rattle.sb_live.proofs.rows.LiveRowsRowOut.rows.Goals as goal

pub returns-in-Ok-clause-rows : goal.returns-in-Ok-clause-rows
returns-in-Ok-clause-rows g c = rw (← c.self.view_is) (record { shows = shows_call _ _ _ c.in-Ok.ensures.shown; faultless = refl })
