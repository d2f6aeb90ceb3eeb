use Rattle.std.proofs.Common.{◌≡◌, rules}
use Rattle.sb_run.proofs.feeding.take.Given.{Over}
use Rattle.sb_run.proofs.feeding.take.Goals as goal

same-pass : (g : Over) (c : goal.After-pass-1 g) → c.pass-1.given.0 ≡ c.take_value-taken.new.engine.pass.now
same-pass g c = search rules

pub returns-clause-gives : goal.returns-clause-gives
returns-clause-gives g c = rw (same-pass g c) (rw c.take_value-taken.ensures.same.0 at c.take_value-taken.ensures.gives)
