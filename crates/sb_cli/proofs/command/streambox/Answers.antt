use Rattle.sb_answer_runs.specs.answers.Faults.{faults_of}
use Rattle.sb_answer_runs.specs.answers.words.Words.Asked.{Audit, Work, Feeds, Resume}
use Rattle.sb_answer_runs.specs.answers.Summaries.{summary_text, work_rows}
use Rattle.sb_answer_runs.proofs.answers.Answering.{audit_is_complete, is_complete, work_is_complete}
use Rattle.sb_answer_runs.proofs.FeedsAnswers.{feeds_is_complete}
use Rattle.sb_answer_runs.proofs.RestAnswers.{rest_is_complete}
use Rattle.sb_cli.proofs.command.streambox.Goals as goal

pub returns-clause-complete : goal.returns-clause-complete
returns-clause-complete g c = λ wanted plan is tells fine.
    is_complete (g.F.Folder.files c.args.folder.now) wanted plan (g.S.Source.left c.args.input.now) (g.S.Source.left c.respond-ending.new.input)
    (g.K.Sink.taken c.args.out.now) (g.K.Sink.taken c.respond-ending.new.out)
    (faults_of (g.S.Source.faults c.args.input.now) (g.K.Sink.sink_state c.args.out.now) (g.F.Folder.failed c.args.folder.now))
    (faults_of (g.S.Source.faults c.respond-ending.new.input) (g.K.Sink.sink_state c.respond-ending.new.out) (g.F.Folder.failed c.respond-ending.new.folder))
    _ _
    c.respond-ending.result (c.respond-ending.ensures.answer wanted is) c.respond-ending.ensures.cause (c.respond-ending.ensures.blames wanted is) c.respond-ending.ensures.blames_tap tells fine

pub returns-clause-audit_complete : goal.returns-clause-audit_complete
returns-clause-audit_complete g c = λ is fine.
    audit_is_complete (g.S.Source.left c.args.input.now) (g.S.Source.left c.respond-ending.new.input)
    (g.K.Sink.taken c.args.out.now) (g.K.Sink.taken c.respond-ending.new.out)
    (faults_of (g.S.Source.faults c.args.input.now) (g.K.Sink.sink_state c.args.out.now) (g.F.Folder.failed c.args.folder.now))
    (faults_of (g.S.Source.faults c.respond-ending.new.input) (g.K.Sink.sink_state c.respond-ending.new.out) (g.F.Folder.failed c.respond-ending.new.folder))
    c.respond-ending.result (c.respond-ending.ensures.answer Audit is) c.respond-ending.ensures.cause fine

pub returns-clause-work_complete : goal.returns-clause-work_complete
returns-clause-work_complete g c = λ records options is fine.
    work_is_complete (summary_text records (work_rows records)) (g.K.Sink.taken c.args.out.now) (g.K.Sink.taken c.respond-ending.new.out)
    (faults_of (g.S.Source.faults c.args.input.now) (g.K.Sink.sink_state c.args.out.now) (g.F.Folder.failed c.args.folder.now))
    (faults_of (g.S.Source.faults c.respond-ending.new.input) (g.K.Sink.sink_state c.respond-ending.new.out) (g.F.Folder.failed c.respond-ending.new.folder))
    c.respond-ending.result.status (c.respond-ending.ensures.answer (Work records options) is).printed c.respond-ending.ensures.cause fine

pub returns-clause-resume_complete : goal.returns-clause-resume_complete
returns-clause-resume_complete g c = λ name checkpoint options plan said is tells_plan tells fine.
    rest_is_complete (g.F.Folder.files c.args.folder.now) name checkpoint options plan said tells_plan tells (g.S.Source.left c.args.input.now) (g.S.Source.left c.respond-ending.new.input)
    (g.K.Sink.taken c.args.out.now) (g.K.Sink.taken c.respond-ending.new.out)
    (faults_of (g.S.Source.faults c.args.input.now) (g.K.Sink.sink_state c.args.out.now) (g.F.Folder.failed c.args.folder.now))
    (faults_of (g.S.Source.faults c.respond-ending.new.input) (g.K.Sink.sink_state c.respond-ending.new.out) (g.F.Folder.failed c.respond-ending.new.folder))
    c.respond-ending.result (c.respond-ending.ensures.answer (Resume name checkpoint options) is) c.respond-ending.ensures.cause (c.respond-ending.ensures.blames (Resume name checkpoint options) is)
    (c.respond-ending.ensures.resume_calls_no_tap name checkpoint options is) fine

pub returns-clause-feeds_complete : goal.returns-clause-feeds_complete
returns-clause-feeds_complete g c = λ name file_a file_b options plan files is tells_plan tells fine.
    feeds_is_complete (g.F.Folder.files c.args.folder.now) name file_a file_b options plan files tells_plan tells (g.S.Source.left c.args.input.now) (g.S.Source.left c.respond-ending.new.input)
    (g.K.Sink.taken c.args.out.now) (g.K.Sink.taken c.respond-ending.new.out)
    (faults_of (g.S.Source.faults c.args.input.now) (g.K.Sink.sink_state c.args.out.now) (g.F.Folder.failed c.args.folder.now))
    (faults_of (g.S.Source.faults c.respond-ending.new.input) (g.K.Sink.sink_state c.respond-ending.new.out) (g.F.Folder.failed c.respond-ending.new.folder))
    _ _
    c.respond-ending.result (c.respond-ending.ensures.answer (Feeds name file_a file_b options) is) c.respond-ending.ensures.cause (c.respond-ending.ensures.blames (Feeds name file_a file_b options) is)
    c.respond-ending.ensures.blames_tap fine
