use Rattle.sb_session.proofs.Sets.{front-in_order}
use Rattle.sb_session.proofs.open.take_due.Goals as goal

pub returns-clause-in_order : goal.returns-clause-in_order
returns-clause-in_order c = front-in_order c.args.due.now.keys c.loop-session.ended.items c.loop-session.due.keys c.loop-session.invariant.split c.loop-session.invariant.in_order
