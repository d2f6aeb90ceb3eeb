use Rattle.std.proofs.Common.{refl}
use Rattle.sb_answers.specs.base.Inputs.{by_stream}
use Rattle.sb_answers.proofs.Blaming.{no_tap_of_files, none_to_blame}
use Rattle.sb_answer_runs.proofs.feeds.answer_files.Goals as goal

pub returns-else-options-clause-unoffered : goal.returns-else-options-clause-unoffered
returns-else-options-clause-unoffered g c = λ no.
    let none = rw c.new-none.ensures.items at c.answer_past-else-options.ensures.offered in
    (refl, no_tap_of_files c.args.plan (by_stream c.args.files.a.items c.args.files.b.items) _ _ _ _ none.offered)

pub returns-else-options-clause-blames_tap : goal.returns-else-options-clause-blames_tap
returns-else-options-clause-blames_tap g c = λ place is.
    let none = rw c.new-none.ensures.items at c.answer_past-else-options.ensures.offered in
    absurd (none_to_blame place _ (no_tap_of_files c.args.plan (by_stream c.args.files.a.items c.args.files.b.items) _ _ _ _ none.offered) is)
