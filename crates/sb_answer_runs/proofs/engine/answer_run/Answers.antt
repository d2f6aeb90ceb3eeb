use Rattle.std.proofs.Common.{refl}
use Rattle.sb_answers.proofs.Blaming.{no_tap, none_to_blame}
use Rattle.sb_answer_runs.proofs.engine.answer_run.Goals as goal

pub returns-else-options-clause-unoffered : goal.returns-else-options-clause-unoffered
returns-else-options-clause-unoffered g c = λ no. (refl, no_tap _ _ _ _ _ _ _ (rw c.new-none.ensures.items at c.answer_past-else-options.ensures.offered))

pub returns-else-options-clause-blames_tap : goal.returns-else-options-clause-blames_tap
returns-else-options-clause-blames_tap g c = λ place is.
    absurd (none_to_blame place _ (no_tap _ _ _ _ _ _ _ (rw c.new-none.ensures.items at c.answer_past-else-options.ensures.offered)) is)
