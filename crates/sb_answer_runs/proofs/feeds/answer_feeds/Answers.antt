use Rattle.std.proofs.Common.{◌≡◌, subst, sym, ◌∙◌}
use Rattle.sb_answers.specs.Faults.{HasCause, HidesNoFault, faults_of}
use Rattle.sb_answer_runs.proofs.feeds.answer_feeds.Goals as goal

pub returns-in-Ok-load_both-clause-cause : goal.returns-in-Ok-load_both-clause-cause
returns-in-Ok-load_both-clause-cause g c = λ reads.
    let loads = g.F.Folder.failed c.args.folder.now in
    let same : loads ≡ g.F.Folder.failed c.load_both.new.folder =
    sym (c.load_both.ensures.loaded (λ is. cc (is, c.in-Ok-load_both.is)) ∙ c.in-Ok.ensures.cause) in
    subst (λ after. HasCause (faults_of reads (g.K.Sink.sink_state c.args.out.now) loads)
    (faults_of reads (g.K.Sink.sink_state c.answer_files.new.out) after) c.answer_files.result.status) same
    (c.answer_files.ensures.cause reads loads)

pub returns-in-Ok-load_both-clause-no_fault_hidden : goal.returns-in-Ok-load_both-clause-no_fault_hidden
returns-in-Ok-load_both-clause-no_fault_hidden g c = λ reads.
    let loads = g.F.Folder.failed c.args.folder.now in
    let same : loads ≡ g.F.Folder.failed c.load_both.new.folder =
    sym (c.load_both.ensures.loaded (λ is. cc (is, c.in-Ok-load_both.is)) ∙ c.in-Ok.ensures.cause) in
    subst (λ after. HidesNoFault (faults_of reads (g.K.Sink.sink_state c.args.out.now) loads)
    (faults_of reads (g.K.Sink.sink_state c.answer_files.new.out) after) c.answer_files.result.status) same
    (c.answer_files.ensures.no_fault_hidden reads loads)
