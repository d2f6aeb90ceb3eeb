use Rattle.std.proofs.Common.{subst, sym, ◌∙◌}
use Rattle.sb_answers.specs.Faults.{HasCause, HidesNoFault, faults_of}
use Rattle.sb_answer_runs.proofs.resuming.answer_resume.Goals as goal

pub returns-in-Ok-load_checkpoint-clause-cause : goal.returns-in-Ok-load_checkpoint-clause-cause
returns-in-Ok-load_checkpoint-clause-cause g c =
    let before = faults_of (g.S.Source.faults c.args.source.now) (g.K.Sink.sink_state c.args.out.now) (g.F.Folder.failed c.args.folder.now) in
    let same = c.in-Ok-load_checkpoint.ensures.loaded (λ e. cc e) ∙ c.in-Ok.ensures.cause in
    subst (λ loads. HasCause before (faults_of (g.S.Source.faults c.answer_rest.new.source) (g.K.Sink.sink_state c.answer_rest.new.out) loads) c.answer_rest.result.status)
    (sym same) (c.answer_rest.ensures.cause (g.F.Folder.failed c.args.folder.now))

pub returns-in-Ok-load_checkpoint-clause-no_fault_hidden : goal.returns-in-Ok-load_checkpoint-clause-no_fault_hidden
returns-in-Ok-load_checkpoint-clause-no_fault_hidden g c =
    let before = faults_of (g.S.Source.faults c.args.source.now) (g.K.Sink.sink_state c.args.out.now) (g.F.Folder.failed c.args.folder.now) in
    let same = c.in-Ok-load_checkpoint.ensures.loaded (λ e. cc e) ∙ c.in-Ok.ensures.cause in
    subst (λ loads. HidesNoFault before (faults_of (g.S.Source.faults c.answer_rest.new.source) (g.K.Sink.sink_state c.answer_rest.new.out) loads) c.answer_rest.result.status)
    (sym same) (c.answer_rest.ensures.no_fault_hidden (g.F.Folder.failed c.args.folder.now))
