use Rattle.std.proofs.Common.{◌≡◌, rules, sym}
use Rattle.sb_run.proofs.files.feeding.end_both.Given.{Over}
use Rattle.sb_run.proofs.files.feeding.end_both.Goals as goal

same-pass : (g : Over) (c : goal.In-Ok g) → c.pass-1.given.0 ≡ c.end_input.new.engine.pass.now
same-pass g c = search rules

pub returns-in-Ok-clause-takes : goal.returns-in-Ok-clause-takes
returns-in-Ok-clause-takes g c = rw (sym c.as_stop-at.ensures) (rw (same-pass g c) (rw c.in-Ok.ensures.same.0 at c.in-Ok.ensures.takes))

pub returns-in-Err-clause-takes : goal.returns-in-Err-clause-takes
returns-in-Err-clause-takes g c = rw (sym c.as_stop-at.ensures) c.in-Err.ensures.takes
