use Rattle.sb_checkpoint.proofs.Heads.{strip-some, strip-none}
use Rattle.sb_checkpoint.proofs.line_reading.after.Goals as goal

pub returns-clause-some : goal.returns-clause-some
returns-clause-some c = strip-some (λ r. r.now) c.strip_prefix.result c.args.front.now c.args.bytes.now c.strip_prefix.ensures.cases

pub returns-clause-none : goal.returns-clause-none
returns-clause-none c = strip-none (λ r. r.now) c.strip_prefix.result c.args.front.now c.args.bytes.now c.strip_prefix.ensures.cases
