use Rattle.std.proofs.Common.{◌∙◌}
use Rattle.sb_answer_runs.proofs.Shown.{last_shown}
use Rattle.sb_answer_runs.proofs.watched.last_if_any.Goals as goal

pub returns-in-Some : goal.returns-in-Some
returns-in-Some g c = c.last.ensures ∙ last_shown c.args.key c.in-Some.key c.args.out.now.changes c.in-Some.is
