use Rattle.sb_session.proofs.Sets.{popped}
use Rattle.sb_session.proofs.open.pop_due.Goals as goal

pub returns-in-Some-clause-in_order : goal.returns-in-Some-clause-in_order
returns-in-Some-clause-in_order c = popped c.pop_first.result c.args.due.now.keys c.pop_first.new.self.keys c.pop_first.ensures.removal c.pop_first.ensures.all_above c.pop_first.ensures.ordered
