use Rattle.sb_answers.specs.base.Inputs.{by_stream}
use Rattle.sb_answer_runs.proofs.FilesAnswers.{files_answer, files_blame, files_can_tell, files_read, files_written_and_offered}
use Rattle.sb_answer_runs.proofs.FilesFaults.{files_cause, files_hide_none}
use Rattle.sb_answer_runs.proofs.feeds.answer_past.Goals as goal

pub tell-requires : goal.tell-requires
tell-requires g c =
    let ends = rw (c.sizes_of-sizes.ensures, c.new.ensures.items, c.new-2.ensures.items) at c.files_to-end.ensures.ends in
    files_can_tell c.args.plan c.args.options (by_stream c.args.files.a.items c.args.files.b.items) _ _ _ _ _ c.files_to-end.new.dropped.a.items c.files_to-end.new.dropped.b.items c.finish_after.ensures.bytes c.files_to-end.result ends

pub returns-clause-answer : goal.returns-clause-answer
returns-clause-answer g c =
    let ends = rw (c.sizes_of-sizes.ensures, c.new.ensures.items, c.new-2.ensures.items) at c.files_to-end.ensures.ends in
    rw (c.new-3.ensures, c.new-4.ensures, c.tell.ensures, c.status_behind-status.ensures)
    (files_answer c.args.plan c.args.options (by_stream c.args.files.a.items c.args.files.b.items) _ _ _ _ _ c.files_to-end.new.dropped.a.items c.files_to-end.new.dropped.b.items c.finish_after.ensures.bytes c.files_to-end.result c.finish_after.result ends)

pub returns-clause-offered : goal.returns-clause-offered
returns-clause-offered g c =
    let ends = rw (c.sizes_of-sizes.ensures, c.new.ensures.items, c.new-2.ensures.items) at c.files_to-end.ensures.ends in
    rw c.status_behind-status.ensures
    (files_written_and_offered c.args.plan c.args.options (by_stream c.args.files.a.items c.args.files.b.items) _ _ _ _ _ c.files_to-end.new.dropped.a.items c.files_to-end.new.dropped.b.items c.finish_after.ensures.bytes c.files_to-end.result c.finish_after.result ends)

pub returns-clause-read : goal.returns-clause-read
returns-clause-read g c = rw c.status_behind-status.ensures (files_read c.files_to-end.result c.finish_after.result)

pub returns-clause-cause : goal.returns-clause-cause
returns-clause-cause g c = λ reads loads.
    rw c.status_behind-status.ensures
    (files_cause reads _ _ _ c.files_to-end.result c.finish_after.result loads c.files_to-end.ensures.output c.finish_after.ensures.cause)

pub returns-clause-blames_tap : goal.returns-clause-blames_tap
returns-clause-blames_tap g c = λ place is.
    let ends = rw (c.sizes_of-sizes.ensures, c.new.ensures.items, c.new-2.ensures.items) at c.files_to-end.ensures.ends in
    files_blame c.args.plan c.args.options (by_stream c.args.files.a.items c.args.files.b.items) _ _ _ _ _ c.files_to-end.new.dropped.a.items c.files_to-end.new.dropped.b.items c.finish_after.ensures.bytes c.files_to-end.result c.finish_after.result place ends (rw c.status_behind-status.ensures at is)

pub returns-clause-no_fault_hidden : goal.returns-clause-no_fault_hidden
returns-clause-no_fault_hidden g c = λ reads loads.
    rw c.status_behind-status.ensures
    (files_hide_none reads _ _ _ c.files_to-end.result c.finish_after.result loads c.files_to-end.ensures.output c.finish_after.ensures.cause c.finish_after.ensures.told)
