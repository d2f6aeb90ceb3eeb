use Rattle.sb_answers.specs.RestSteps.{said_by}
use Rattle.sb_answer_runs.proofs.RestEnds.{rest_answer, rest_no_tap}
use Rattle.sb_answers.proofs.RunFaults.{done_is_done, run_cause, run_hides_none, run_read}
use Rattle.sb_answer_runs.proofs.resuming.answer_rest.Goals as goal

pub returns-clause-answer : goal.returns-clause-answer
returns-clause-answer g c =
    let ends = rw (c.sizes_of.ensures, c.new-dropped.ensures.items) at c.rest_to-end.ensures.ends in
    rw (c.new.ensures, c.none.ensures, c.status_behind-status.ensures)
    (rest_answer c.args.plan c.args.options (said_by c.args.checkpoint) _ _ _ _ _ _ c.requires.untold c.finish_after.ensures.bytes c.rest_to-end.result c.finish_after.result ends)

pub returns-clause-read : goal.returns-clause-read
returns-clause-read g c = rw c.status_behind-status.ensures (run_read c.rest_to-end.result c.finish_after.result)

pub returns-clause-no_tap : goal.returns-clause-no_tap
returns-clause-no_tap g c =
    let ends = rw (c.sizes_of.ensures, c.new-dropped.ensures.items) at c.rest_to-end.ensures.ends in
    rw c.status_behind-status.ensures
    (rest_no_tap c.args.plan c.args.options (said_by c.args.checkpoint) _ _ _ _ _ _ c.requires.untold c.finish_after.ensures.bytes c.rest_to-end.result c.finish_after.result ends)

pub returns-clause-cause : goal.returns-clause-cause
returns-clause-cause g c = λ loads.
    rw c.status_behind-status.ensures
    (run_cause _ _ _ _ _ c.rest_to-end.result c.finish_after.result loads c.rest_to-end.ensures.input c.rest_to-end.ensures.output c.finish_after.ensures.cause)

pub returns-clause-no_fault_hidden : goal.returns-clause-no_fault_hidden
returns-clause-no_fault_hidden g c = λ loads.
    rw c.status_behind-status.ensures
    (run_hides_none _ _ _ _ _ c.rest_to-end.result c.finish_after.result loads c.rest_to-end.ensures.input c.rest_to-end.ensures.output c.finish_after.ensures.cause c.finish_after.ensures.told)

pub returns-clause-end : goal.returns-clause-end
returns-clause-end g c = λ done. c.rest_to-end.ensures.end (done_is_done c.rest_to-end.result c.finish_after.result (rw c.status_behind-status.ensures at done))
