use Rattle.sb_feeds.proofs.RowsSent.{one_sent, refused}
use Rattle.sb_feeds.proofs.rows.sending.RowsSenderRowOut.rows.Goals as goal

pub returns-then-is_over-clause-cause : goal.returns-then-is_over-clause-cause
returns-then-is_over-clause-cause g c =
    let told = c.refuse.ensures in
    refused c.args.self.now.faults c.refuse.new.self.faults c.args.self.now.shortages c.refuse.new.self.shortages c.refuse.result told.never_falls told.counted told.same_shortages told.refused

pub returns-then-send-clause-rows : goal.returns-then-send-clause-rows
returns-then-send-clause-rows g c =
    one_sent c.args.self.now.out (record { producer = c.send.new.producer }) c.args.rows.now c.in-Ok.copied c.in-Ok.ensures.items c.send.ensures.ring (c.send.ensures.sent c.if-send.true)

pub returns-clause-cause : goal.returns-clause-cause
returns-clause-cause g c =
    let told = c.refuse-2.ensures in
    refused c.args.self.now.faults c.refuse-2.new.self.faults c.args.self.now.shortages c.refuse-2.new.self.shortages c.refuse-2.result told.never_falls told.counted told.same_shortages told.refused
