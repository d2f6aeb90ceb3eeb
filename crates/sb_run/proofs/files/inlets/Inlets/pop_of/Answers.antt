use Rattle.sb_engines.specs.feeds.base.records.declared.item.Stream.TheVariants.{A, B}
use Rattle.sb_engines.specs.feeds.Ends.{values_received}
use Rattle.sb_run.proofs.InletPops.{none_came}
use Rattle.sb_run.proofs.files.inlets.Inlets.pop_of.Goals as goal

pub returns-in-A-clause-grows : goal.returns-in-A-clause-grows
returns-in-A-clause-grows c A = c.pop.ensures.grows
returns-in-A-clause-grows c B = none_came (values_received c.args.self.now.b.inward)

pub returns-in-B-clause-grows : goal.returns-in-B-clause-grows
returns-in-B-clause-grows c A = none_came (values_received c.args.self.now.a.inward)
returns-in-B-clause-grows c B = c.pop-in-B.ensures.grows
