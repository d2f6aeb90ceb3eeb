use Rattle.sb_answers.specs.Summaries.{summary_text, work_rows}
use Rattle.sb_answers.proofs.Answering.{nothing_printed}
use Rattle.sb_answer_runs.proofs.work.answer_work.Goals as goal

pub returns-in-Ok-clause-answer : goal.returns-in-Ok-clause-answer
returns-in-Ok-clause-answer g c =
    let printed = rw (c.as_slice.ensures.bytes, c.text_of.ensures, c.in-Ok.ensures) at c.print.ensures.printed in
    record { printed = rw c.of.ensures.status printed; undropped = c.of.ensures.dropped; untold = c.of.ensures.diaries }

pub returns-in-Err-clause-answer : goal.returns-in-Err-clause-answer
returns-in-Err-clause-answer g c =
    let printed = nothing_printed (summary_text c.args.records (work_rows c.args.records)) (g.K.Sink.taken c.args.out.now) in
    record { printed = rw c.of-in-Err.ensures.status printed; undropped = c.of-in-Err.ensures.dropped; untold = c.of-in-Err.ensures.diaries }
