use Rattle.std.proofs.Common.{◌≡◌, rules}
use Rattle.sb_run.proofs.files.feeding.take_of.Given.{Over}
use Rattle.sb_run.proofs.files.feeding.take_of.Goals as goal

same-pass : (g : Over) (c : goal.After-pass-1 g) → c.pass-1.given.0 ≡ c.take_item.new.engine.pass.now
same-pass g c = search rules

same-pass-in-B : (g : Over) (c : goal.After-pass-in-B-1 g) → c.pass-in-B-1.given.0 ≡ c.take_item-in-B.new.engine.pass.now
same-pass-in-B g c = search rules

pub returns-in-A-clause-takes : goal.returns-in-A-clause-takes
returns-in-A-clause-takes g c = rw (same-pass g c) (rw c.take_item.ensures.same.0 at c.take_item.ensures.takes)

pub returns-in-B-clause-takes : goal.returns-in-B-clause-takes
returns-in-B-clause-takes g c = rw (same-pass-in-B g c) (rw c.take_item-in-B.ensures.same.0 at c.take_item-in-B.ensures.takes)
