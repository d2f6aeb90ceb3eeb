use Rattle.sb_cli.proofs.RestLaws.{resumed-answers_are_the_rest}
use Rattle.sb_cli.proofs.laws.resumed_answers_are_the_rest.Goals as goal

pub returns : goal.returns
returns c = resumed-answers_are_the_rest
