use Rattle.std.proofs.Common.{None, sym, ◌∙◌}
use Rattle.sb_lane.specs.Links.{Link}
use Rattle.sb_lane.proofs.Linking.{down-at, down-none}
use Rattle.sb_lane.proofs.links.down_in.Goals as goal

no_link : Link
no_link = record { epoch = 0; place = 0; down = None }

pub returns-in-Some : goal.returns-in-Some
returns-in-Some c = sym (down-at c.args.epoch c.args.containers.now c.in-Some.at no_link c.in-Some.ensures.within c.in-Some.ensures.before c.in-Some.ensures.here ∙ c.get.ensures.down no_link)

pub returns-in-None : goal.returns-in-None
returns-in-None c = sym (down-none c.args.epoch c.args.containers.now c.in-None.ensures.none)
