use Rattle.std.proofs.Common.{subst}
use Rattle.sb_answers.specs.base.pipeline.Shapes.{sum_shape}
use Rattle.sb_answers.specs.Answers.{IsAnswerOf}
use Rattle.sb_answers.proofs.Answering.{memory_answer, memory_offered, unread}
use Rattle.sb_answer_runs.proofs.answer.answer_sum.Goals as goal

pub returns-in-Ok-clause-answer : goal.returns-in-Ok-clause-answer
returns-in-Ok-clause-answer g c =
    subst (λ plan. IsAnswerOf plan c.args.options (g.S.Source.left c.args.source.now) (g.S.Source.left c.answer_run.new.source) (g.K.Sink.taken c.args.out.now) (g.K.Sink.taken c.answer_run.new.out) c.answer_run.result)
    c.in-Ok.ensures c.answer_run.ensures.answer

pub returns-in-Ok-clause-offered : goal.returns-in-Ok-clause-offered
returns-in-Ok-clause-offered g c = λ taps. let offered = c.answer_run.ensures.offered taps in rw c.in-Ok.ensures at offered

pub returns-in-Err-clause-answer : goal.returns-in-Err-clause-answer
returns-in-Err-clause-answer g c =
    let left = g.S.Source.left c.args.source.now in
    memory_answer (sum_shape c.args.size) c.args.options left left (g.K.Sink.taken c.args.out.now) c.of.result (unread left) c.of.ensures.status c.of.ensures.dropped c.of.ensures.diaries

pub returns-in-Err-clause-offered : goal.returns-in-Err-clause-offered
returns-in-Err-clause-offered g c = λ taps.
    let left = g.S.Source.left c.args.source.now in
    memory_offered (sum_shape c.args.size) left left (g.K.Sink.taken c.args.out.now) _ _ c.of.result.status (unread left) c.of.ensures.status

pub returns-in-Ok-clause-read_no_more_at_output : goal.returns-in-Ok-clause-read_no_more_at_output
returns-in-Ok-clause-read_no_more_at_output g c = λ one is. let stops = c.answer_run.ensures.read_no_more_at_output one is in rw c.in-Ok.ensures at stops
