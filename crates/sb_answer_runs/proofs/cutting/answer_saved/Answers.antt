use Rattle.sb_answer_runs.proofs.SaveAnswers.{save_answer, unsaved_answer}
use Rattle.sb_answer_runs.proofs.cutting.answer_saved.Goals as goal
use Rattle.sb_answer_runs.proofs.cutting.answer_saved.Goals.{in-Ok, in-Err}

pub returns-clause-answer : goal.returns-clause-answer
returns-clause-answer g c =
    let plan = c.args.plan.now in
    let left = g.S.Source.left c.args.source.now in
    let left' = g.S.Source.left c.save.new.input in
    let taken = g.K.Sink.taken c.args.out.now in
    rw (c.new.ensures, c.none.ensures)
    (elim c.match-save.branch [
      | in-Ok w ↦ rw (w.out-is, w.status-is)
          (save_answer plan left left' _ w.in-Ok.saved.checkpoint w.in-Ok.saved.stop taken (g.K.Sink.taken w.write_saved-status.new.out) w.write_saved-status.result
          (rw c.new-dropped.ensures.items at w.in-Ok.ensures.saves) w.write_saved-status.ensures.written)
      | in-Err w ↦ rw (w.out-is, w.status-is) (unsaved_answer plan left left' _ taken (rw c.new-dropped.ensures.items at w.in-Err.ensures.none))
    ])
