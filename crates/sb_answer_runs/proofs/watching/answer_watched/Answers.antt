use Rattle.sb_answer_runs.proofs.WatchAnswers.{last_meets, unwatched_answer, watch_answer}
use Rattle.sb_answer_runs.proofs.watching.answer_watched.Goals as goal
use Rattle.sb_answer_runs.proofs.watching.answer_watched.Goals.{in-Ok, in-Err}

pub write_last-status-requires-after_bounds : goal.write_last-status-requires-after_bounds
write_last-status-requires-after_bounds g c κs within =
    last_meets c.args.plan _ _ _ _ c.in-Ok.watched (rw c.new-dropped.ensures.items at c.in-Ok.ensures.watched)

pub returns-clause-answer : goal.returns-clause-answer
returns-clause-answer g c =
    let left = g.S.Source.left c.args.source.now in
    let left' = g.S.Source.left c.watch.new.input in
    let taken = g.K.Sink.taken c.args.out.now in
    rw (c.new.ensures, c.none.ensures)
    (elim c.match-watch.branch [
      | in-Ok w ↦ rw (w.out-is, w.status-is)
          (watch_answer c.args.plan c.args.key.now left left' _ c.args.options taken (g.K.Sink.taken w.write_last-status.new.out) c.requires.untold w.in-Ok.watched w.write_last-status.result
          (rw (c.new-dropped.ensures.items, c.as_bytes.ensures.value) at w.in-Ok.ensures.watched) w.write_last-status.ensures.written)
      | in-Err w ↦ rw (w.out-is, w.status-is) (unwatched_answer c.args.plan c.args.key.now left left' _ c.args.options taken (rw c.new-dropped.ensures.items at w.in-Err.ensures.watched))
    ])
