use Rattle.sb_feed.proofs.GiveLaws.{cause_of_written, written_whole}
use Rattle.sb_feed.proofs.give.give_out.Goals as goal

pub returns-in-Ok-clause-writes : goal.returns-in-Ok-clause-writes
returns-in-Ok-clause-writes g c =
    let laws = g.met.R.RowOut g.world.𝓛 g.world.𝓜 g.world.𝓡 ((λ s x. x), (λ x. x), (λ x. x), λ x. x) in
    written_whole g.R.RowOut.after g.R.RowOut.part laws.part_of_all c.args.out.now c.rows.new.self c.args.rows.now c.offer_all.result c.in-Ok.ensures.rows

pub returns-in-Ok-clause-cause : goal.returns-in-Ok-clause-cause
returns-in-Ok-clause-cause g c = cause_of_written (g.R.RowOut.row_state c.args.out.now) (g.R.RowOut.row_state c.rows.new.self) _ c.offer_all.result c.in-Ok.ensures.cause c.offer_all.ensures.writes_none
