use Rattle.sb_engines.specs.worker.cascade.Calls.{plan_of}
use Rattle.sb_engines.specs.feeds.InputEnds.{values_sent}
use Rattle.sb_run.proofs.Tied.{unread}
use Rattle.sb_run.proofs.reading.read_and_help.Goals as goal

pub returns-then-not-begin-clause-read : goal.returns-then-not-begin-clause-read
returns-then-not-begin-clause-read g c = unread (plan_of c.args.common.now.cascade.now) c.args.common.now.size (g.S.Source.left c.args.input.now) (g.S.Source.faults c.args.input.now) (values_sent c.args.outward.now) c.args.dropped.now.items c.requires.new
