use Rattle.sb_feeds.proofs.RowsSent.{refused}
use Rattle.sb_feeds.proofs.rows.sending.RowsSenderRowOut.finish.Goals as goal

pub returns-then-is_over-clause-cause : goal.returns-then-is_over-clause-cause
returns-then-is_over-clause-cause g c =
    let told = c.refuse.ensures in
    refused c.args.self.now.faults c.refuse.new.self.faults c.args.self.now.shortages c.refuse.new.self.shortages c.refuse.result told.never_falls told.counted told.same_shortages told.refused
