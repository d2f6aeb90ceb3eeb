use Rattle.std.proofs.Common.{true, false, ◌∙◌}
use Rattle.clap.specs.Words.{found_of}
use Rattle.clap.proofs.WalkLemmas.{one_text-rows}
use Rattle.sb_arguments.proofs.matched.is_given.Goals as goal

pub returns : goal.returns
returns c true is = c.get_flag.ensures.value (one_text-rows (found_of c.args.matches.now) c.args.id.now ∙ is)
returns c false is = c.get_flag.ensures.other (one_text-rows (found_of c.args.matches.now) c.args.id.now ∙ is)
