use Rattle.sb_words.proofs.Commands.{is_run, no_answer, no_run}
use Rattle.sb_words.proofs.planned.read_run.Goals as goal

pub returns-in_err-options-clause-exact : goal.returns-in_err-options-clause-exact
returns-in_err-options-clause-exact c =
    no_answer _ c.from_residual.ensures _ (no_run c.args.plan.now _ c.in_err-options.ensures.exact)

pub returns-clause-exact : goal.returns-clause-exact
returns-clause-exact c = is_run c.args.plan.now _ c.requires c.in_ok-options.options c.in_ok-options.ensures.exact
