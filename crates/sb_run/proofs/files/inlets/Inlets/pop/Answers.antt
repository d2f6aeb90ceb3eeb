use Rattle.sb_run.specs.Pops.{values_of}
use Rattle.sb_run.proofs.InletPops.{came_then}
use Rattle.sb_run.proofs.files.inlets.Inlets.pop.Goals as goal

pub returns-in-Some-pop_of-clause-grows : goal.returns-in-Some-pop_of-clause-grows
returns-in-Some-pop_of-clause-grows c s =
    came_then (values_of c.args.self.now s) (values_of c.pop_of.new.self s) (values_of c.pop_of-2.new.self s) (c.pop_of.ensures.grows s) (c.pop_of-2.ensures.grows s)

pub returns-in-None-clause-grows : goal.returns-in-None-clause-grows
returns-in-None-clause-grows c s =
    came_then (values_of c.args.self.now s) (values_of c.pop_of.new.self s) (values_of c.pop_of-2.new.self s) (c.pop_of.ensures.grows s) (c.pop_of-2.ensures.grows s)
