use Rattle.sb_answer_runs.proofs.CutAnswers.{part_answer}
use Rattle.sb_answer_runs.proofs.CutFaults.{cut_cause, cut_hides_none, cut_is_done, cut_no_tap, cut_read}
use Rattle.sb_answer_runs.proofs.cutting.answer_part_of.Goals as goal

pub returns-clause-answer : goal.returns-clause-answer
returns-clause-answer g c =
    let ends = rw c.new-dropped.ensures.items at c.part_to-end.ensures.ends in
    rw (c.new.ensures, c.none.ensures, c.cut_status-status.ensures)
    (part_answer c.args.plan c.args.options _ _ _ _ _ _ c.requires.untold c.finish_cut.ensures.bytes c.part_to-end.result c.finish_cut.result ends)

pub returns-clause-read : goal.returns-clause-read
returns-clause-read g c = rw c.cut_status-status.ensures (cut_read c.part_to-end.result c.finish_cut.result)

pub returns-clause-no_tap : goal.returns-clause-no_tap
returns-clause-no_tap g c = rw c.cut_status-status.ensures (cut_no_tap c.part_to-end.result c.finish_cut.result)

pub returns-clause-cause : goal.returns-clause-cause
returns-clause-cause g c = λ loads.
    rw c.cut_status-status.ensures
    (cut_cause _ _ _ _ _ c.part_to-end.result c.finish_cut.result loads c.part_to-end.ensures.input c.part_to-end.ensures.output c.finish_cut.ensures.cause)

pub returns-clause-no_fault_hidden : goal.returns-clause-no_fault_hidden
returns-clause-no_fault_hidden g c = λ loads.
    rw c.cut_status-status.ensures
    (cut_hides_none _ _ _ _ _ c.part_to-end.result c.finish_cut.result loads c.part_to-end.ensures.input c.part_to-end.ensures.output c.finish_cut.ensures.cause c.finish_cut.ensures.told)

pub returns-clause-end : goal.returns-clause-end
returns-clause-end g c = λ done. c.part_to-end.ensures.end (cut_is_done c.part_to-end.result c.finish_cut.result (rw c.cut_status-status.ensures at done))
