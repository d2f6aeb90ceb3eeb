use Rattle.std.proofs.Common.{refl}
use Rattle.sb_answers.proofs.RunAnswers.{output_alone, run_answer, run_blames, run_can_tell, run_offered}
use Rattle.sb_answers.proofs.RunFaults.{done_is_done, run_cause, run_hides_none, run_read, tap_alone}
use Rattle.sb_answer_runs.proofs.engine.answer_past.Goals as goal

pub tell-requires : goal.tell-requires
tell-requires g c =
    let ends = rw (c.sizes_of.ensures, c.new-dropped.ensures.items) at c.run_to-end.ensures.ends in
    run_can_tell c.args.plan c.args.options _ _ _ _ _ _ _ _ c.finish_after.ensures.bytes c.run_to-end.result ends

pub returns-clause-answer : goal.returns-clause-answer
returns-clause-answer g c =
    let ends = rw (c.sizes_of.ensures, c.new-dropped.ensures.items) at c.run_to-end.ensures.ends in
    rw (c.new.ensures, c.tell.ensures, c.status_behind-status.ensures)
    (run_answer (λ rows. rows) (λ rows more. refl) c.args.plan c.args.options _ _ _ _ _ _ _ _ c.finish_after.ensures.bytes c.run_to-end.result c.finish_after.result ends)

pub returns-clause-offered : goal.returns-clause-offered
returns-clause-offered g c =
    let ends = rw (c.sizes_of.ensures, c.new-dropped.ensures.items) at c.run_to-end.ensures.ends in
    rw c.status_behind-status.ensures
    (run_offered c.args.plan c.args.options _ _ _ _ _ _ _ _ c.finish_after.ensures.bytes c.run_to-end.result c.finish_after.result ends)

pub returns-clause-read : goal.returns-clause-read
returns-clause-read g c = rw c.status_behind-status.ensures (run_read c.run_to-end.result c.finish_after.result)

pub returns-clause-cause : goal.returns-clause-cause
returns-clause-cause g c = λ loads.
    rw c.status_behind-status.ensures
    (run_cause _ _ _ _ _ c.run_to-end.result c.finish_after.result loads c.run_to-end.ensures.input c.run_to-end.ensures.output c.finish_after.ensures.cause)

pub returns-clause-blames_tap : goal.returns-clause-blames_tap
returns-clause-blames_tap g c = λ place is.
    let ends = rw (c.sizes_of.ensures, c.new-dropped.ensures.items) at c.run_to-end.ensures.ends in
    run_blames c.args.plan c.args.options _ _ _ _ _ _ _ _ c.finish_after.ensures.bytes c.run_to-end.result c.finish_after.result place ends (rw c.status_behind-status.ensures at is)

pub returns-clause-no_fault_hidden : goal.returns-clause-no_fault_hidden
returns-clause-no_fault_hidden g c = λ loads.
    rw c.status_behind-status.ensures
    (run_hides_none _ _ _ _ _ c.run_to-end.result c.finish_after.result loads c.run_to-end.ensures.input c.run_to-end.ensures.output c.finish_after.ensures.cause c.finish_after.ensures.told)

pub returns-clause-read_no_more : goal.returns-clause-read_no_more
returns-clause-read_no_more g c = λ place one is.
    tap_alone _ _ place c.run_to-end.result c.finish_after.result (c.run_to-end.ensures.alone (rw c.sizes_of.ensures one)) (rw c.status_behind-status.ensures at is)

pub returns-clause-read_no_more_at_output : goal.returns-clause-read_no_more_at_output
returns-clause-read_no_more_at_output g c = λ one is.
    let ends = rw (c.sizes_of.ensures, c.new-dropped.ensures.items) at c.run_to-end.ensures.ends in
    output_alone (λ rows. rows) (λ rows more. refl) c.args.plan c.args.options _ _ _ _ _ _ _ _ c.finish_after.ensures.bytes
    (g.S.Source.faults c.args.source.now) (g.S.Source.faults c.run_to-end.new.source) c.run_to-end.result c.finish_after.result (c.run_to-end.ensures.alone (rw c.sizes_of.ensures one)) ends
    (rw c.status_behind-status.ensures at is)

pub returns-clause-end : goal.returns-clause-end
returns-clause-end g c = λ done. c.run_to-end.ensures.end (done_is_done c.run_to-end.result c.finish_after.result (rw c.status_behind-status.ensures at done))
