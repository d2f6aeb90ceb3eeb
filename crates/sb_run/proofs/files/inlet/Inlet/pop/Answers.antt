use Rattle.sb_run.proofs.InletPops.{item_popped, stop_popped}
use Rattle.sb_run.proofs.files.inlet.Inlet.pop.Goals as goal

pub returns-in-Item-clause-pops : goal.returns-in-Item-clause-pops
returns-in-Item-clause-pops c streams s is =
    item_popped streams s c.args.self.now c.pop.new.self is c.in-Some.next c.in-Item.item c.in-Some.ensures.some c.in-Item.is c.count_in.result c.count_in.new.self c.count_in.ensures.none c.count_in.ensures.some

pub returns-in-Stop-clause-pops : goal.returns-in-Stop-clause-pops
returns-in-Stop-clause-pops c streams s is =
    stop_popped streams s c.args.self.now c.pop.new.self is c.in-Some.next c.in-Stop.stop c.in-Some.ensures.some c.in-Stop.is c.in-Some.ensures.no_stop_before
