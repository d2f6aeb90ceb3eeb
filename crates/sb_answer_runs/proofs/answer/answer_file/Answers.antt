use Rattle.std.proofs.Common.{inr, subst, sym}
use Rattle.sb_answers.specs.Faults.{HasCause, HidesNoFault, faults_of}
use Rattle.sb_answers.specs.words.Words.Asked.{Run}
use Rattle.sb_answers.proofs.ReadingOn.{reads_no_more}
use Rattle.sb_answer_runs.proofs.answer.answer_file.Goals as goal

pub returns-in-Ok-clause-cause : goal.returns-in-Ok-clause-cause
returns-in-Ok-clause-cause g c =
    let before = faults_of (g.S.Source.faults c.args.source.now) (g.K.Sink.sink_state c.args.out.now) (g.F.Folder.failed c.args.folder.now) in
    subst (λ loads. HasCause before (faults_of (g.S.Source.faults c.answer_run.new.source) (g.K.Sink.sink_state c.answer_run.new.out) loads) c.answer_run.result.status)
    (sym c.in-Ok.ensures.cause) (c.answer_run.ensures.cause (g.F.Folder.failed c.args.folder.now))

pub returns-in-Ok-clause-no_fault_hidden : goal.returns-in-Ok-clause-no_fault_hidden
returns-in-Ok-clause-no_fault_hidden g c =
    let before = faults_of (g.S.Source.faults c.args.source.now) (g.K.Sink.sink_state c.args.out.now) (g.F.Folder.failed c.args.folder.now) in
    subst (λ loads. HidesNoFault before (faults_of (g.S.Source.faults c.answer_run.new.source) (g.K.Sink.sink_state c.answer_run.new.out) loads) c.answer_run.result.status)
    (sym c.in-Ok.ensures.cause) (c.answer_run.ensures.no_fault_hidden (g.F.Folder.failed c.args.folder.now))

pub returns-in-Ok-clause-answer : goal.returns-in-Ok-clause-answer
returns-in-Ok-clause-answer g c = inr (_, (c.in-Ok.ensures.plan, λ files told. c.in-Ok.ensures.exact files told), c.answer_run.ensures.answer)

pub returns-in-Ok-clause-read_no_more_at_output : goal.returns-in-Ok-clause-read_no_more_at_output
returns-in-Ok-clause-read_no_more_at_output g c = λ one is.
    reads_no_more (g.F.Folder.files c.args.folder.now) (Run c.args.name.now c.args.options) _ (c.in-Ok.ensures.plan, λ files told. c.in-Ok.ensures.exact files told)
    (g.S.Source.left c.args.source.now) (g.S.Source.left c.answer_run.new.source) (g.K.Sink.taken c.args.out.now) (g.K.Sink.taken c.answer_run.new.out)
    (g.S.Source.faults c.args.source.now) (g.S.Source.faults c.answer_run.new.source) (c.answer_run.ensures.read_no_more_at_output one is)
