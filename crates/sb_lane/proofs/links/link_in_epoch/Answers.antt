use Rattle.std.proofs.Common.{None, sym, ◌∙◌}
use Rattle.sb_lane.specs.Links.{Link}
use Rattle.sb_lane.proofs.Linking.{linked-at, linked-none}
use Rattle.sb_lane.proofs.links.link_in_epoch.Goals as goal

no_link : Link
no_link = record { epoch = 0; place = 0; down = None }

pub returns-in-Some-clause-links : goal.returns-in-Some-clause-links
returns-in-Some-clause-links c = c.link.ensures.links no_link ∙ sym (linked-at c.args.epoch c.args.down c.args.containers.now c.in-Some.at no_link c.in-Some.ensures.within c.in-Some.ensures.before c.in-Some.ensures.here)

pub returns-in_default-clause-links : goal.returns-in_default-clause-links
returns-in_default-clause-links c = sym (linked-none c.args.epoch c.args.down c.args.containers.now c.in_default.ensures.none)
