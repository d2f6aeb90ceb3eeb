use Rattle.std.proofs.Common.{◌≡◌, inr, refl, sym, ap, ◌∙◌, subst}
use Rattle.std.proofs.lemmas.Option.{same_Some}
use Rattle.sb_answer_runs.specs.answers.base.pipeline.Shapes.{sum_shape}
use Rattle.sb_answer_runs.specs.answers.words.Words.{asked_of}
use Rattle.sb_answer_runs.specs.answers.words.Words.Asked.{Sum, Run, Slow, Audit, Work, Watch, Feeds, Part, Save, Resume}
use Rattle.sb_answer_runs.specs.answers.Answers.{IsAnswer}
use Rattle.sb_answer_runs.proofs.answers.Answering.{no_memory}
use Rattle.sb_cli.proofs.Offering.{offered_for}
use Rattle.sb_answer_runs.proofs.answers.ReadingOn.{reads_no_more, reads_none, stops_for, writes_late}
use Rattle.sb_cli.proofs.command.respond.Goals as goal

pub returns-in-Ok-Some-Sum-clause-answer : goal.returns-in-Ok-Some-Sum-clause-answer
returns-in-Ok-Some-Sum-clause-answer g c = λ wanted is.
    let exact = rw c.in-Ok-Some-Sum.field-0-is at c.in-Ok-Some-Sum.ensures.exact wanted in
    let same : Sum c.in-Ok-Some-Sum.size c.in-Ok-Some-Sum.options ≡ wanted = sym (ap asked_of c.in-Ok-Some-Sum.field-0-0-is) ∙ same_Some _ wanted (exact.1 is) in
    subst (λ w. IsAnswer (g.F.Folder.files c.args.folder.now) w (g.S.Source.left c.args.input.now) (g.S.Source.left c.answer_sum.new.source) (g.K.Sink.taken c.args.out.now) (g.K.Sink.taken c.answer_sum.new.out) c.answer_sum.result) same
    (inr (sum_shape c.in-Ok-Some-Sum.size, refl, c.answer_sum.ensures.answer))

pub returns-in-Err-clause-answer : goal.returns-in-Err-clause-answer
returns-in-Err-clause-answer g c = λ wanted is.
    no_memory (g.F.Folder.files c.args.folder.now) wanted (g.S.Source.left c.args.input.now) (g.K.Sink.taken c.args.out.now) c.of-in-Err.result
    c.of-in-Err.ensures.status c.of-in-Err.ensures.dropped c.of-in-Err.ensures.diaries

pub returns-in-Ok-Some-Sum-clause-cause : goal.returns-in-Ok-Some-Sum-clause-cause
returns-in-Ok-Some-Sum-clause-cause g c = c.answer_sum.ensures.cause (g.F.Folder.failed c.args.folder.now)

pub returns-in-Ok-Some-Sum-clause-no_fault_hidden : goal.returns-in-Ok-Some-Sum-clause-no_fault_hidden
returns-in-Ok-Some-Sum-clause-no_fault_hidden g c = c.answer_sum.ensures.no_fault_hidden (g.F.Folder.failed c.args.folder.now)

pub returns-in-Ok-Some-Audit-clause-cause : goal.returns-in-Ok-Some-Audit-clause-cause
returns-in-Ok-Some-Audit-clause-cause g c = c.answer_audit.ensures.cause (g.F.Folder.failed c.args.folder.now)

pub returns-in-Ok-Some-Audit-clause-no_fault_hidden : goal.returns-in-Ok-Some-Audit-clause-no_fault_hidden
returns-in-Ok-Some-Audit-clause-no_fault_hidden g c = c.answer_audit.ensures.no_fault_hidden (g.F.Folder.failed c.args.folder.now)

pub returns-in-Ok-Some-Work-clause-answer : goal.returns-in-Ok-Some-Work-clause-answer
returns-in-Ok-Some-Work-clause-answer g c = λ wanted is.
    let exact = rw c.in-Ok-Some-Work.field-0-is at c.in-Ok-Some-Work.ensures.exact wanted in
    let same : Work c.in-Ok-Some-Work.records c.in-Ok-Some-Work.options ≡ wanted = sym (ap asked_of c.in-Ok-Some-Work.field-0-0-is) ∙ same_Some _ wanted (exact.1 is) in
    subst (λ w. IsAnswer (g.F.Folder.files c.args.folder.now) w (g.S.Source.left c.args.input.now) (g.S.Source.left c.args.input.now) (g.K.Sink.taken c.args.out.now) (g.K.Sink.taken c.answer_work.new.out) c.answer_work.result) same
    c.answer_work.ensures.answer

pub returns-in-Ok-Some-Work-clause-cause : goal.returns-in-Ok-Some-Work-clause-cause
returns-in-Ok-Some-Work-clause-cause g c = c.answer_work.ensures.cause (g.S.Source.faults c.args.input.now) (g.F.Folder.failed c.args.folder.now)

pub returns-in-Ok-Some-Work-clause-no_fault_hidden : goal.returns-in-Ok-Some-Work-clause-no_fault_hidden
returns-in-Ok-Some-Work-clause-no_fault_hidden g c = c.answer_work.ensures.no_fault_hidden (g.S.Source.faults c.args.input.now) (g.F.Folder.failed c.args.folder.now)

pub returns-in-Ok-Some-Feeds-clause-answer : goal.returns-in-Ok-Some-Feeds-clause-answer
returns-in-Ok-Some-Feeds-clause-answer g c = λ wanted is.
    let exact = rw c.in-Ok-Some-Feeds.field-0-is at c.in-Ok-Some-Feeds.ensures.exact wanted in
    let same : Feeds c.in-Ok-Some-Feeds.name.now c.in-Ok-Some-Feeds.file_a.now c.in-Ok-Some-Feeds.file_b.now c.in-Ok-Some-Feeds.options ≡ wanted =
    sym (ap asked_of c.in-Ok-Some-Feeds.field-0-0-is) ∙ same_Some _ wanted (exact.1 is) in
    let left = g.S.Source.left c.args.input.now in
    subst (λ w. IsAnswer (g.F.Folder.files c.args.folder.now) w left left (g.K.Sink.taken c.args.out.now) (g.K.Sink.taken c.answer_feeds.new.out) c.answer_feeds.result) same
    (c.answer_feeds.ensures.answer left)

pub returns-in-Ok-Some-Feeds-clause-cause : goal.returns-in-Ok-Some-Feeds-clause-cause
returns-in-Ok-Some-Feeds-clause-cause g c = c.answer_feeds.ensures.cause (g.S.Source.faults c.args.input.now)

pub returns-in-Ok-Some-Feeds-clause-no_fault_hidden : goal.returns-in-Ok-Some-Feeds-clause-no_fault_hidden
returns-in-Ok-Some-Feeds-clause-no_fault_hidden g c = c.answer_feeds.ensures.no_fault_hidden (g.S.Source.faults c.args.input.now)

pub returns-in-Ok-Some-Sum-clause-offered : goal.returns-in-Ok-Some-Sum-clause-offered
returns-in-Ok-Some-Sum-clause-offered g c = λ wanted is.
    let exact = rw c.in-Ok-Some-Sum.field-0-is at c.in-Ok-Some-Sum.ensures.exact wanted in
    let asked = Sum c.in-Ok-Some-Sum.size c.in-Ok-Some-Sum.options in
    let same : asked ≡ wanted = sym (ap asked_of c.in-Ok-Some-Sum.field-0-0-is) ∙ same_Some _ wanted (exact.1 is) in
    offered_for (g.F.Folder.files c.args.folder.now) asked wanted same (g.S.Source.left c.args.input.now) (g.S.Source.left c.answer_sum.new.source)
    (g.K.Sink.taken c.args.out.now) (g.K.Sink.taken c.answer_sum.new.out) _ _ c.answer_sum.result.status
    (λ on. inr (sum_shape c.in-Ok-Some-Sum.size, refl, c.answer_sum.ensures.offered on))

pub returns-in-Ok-Some-Run-clause-offered : goal.returns-in-Ok-Some-Run-clause-offered
returns-in-Ok-Some-Run-clause-offered g c = λ wanted is.
    let exact = rw c.in-Ok-Some-Run.field-0-is at c.in-Ok-Some-Run.ensures.exact wanted in
    let asked = Run c.in-Ok-Some-Run.name.now c.in-Ok-Some-Run.options in
    let same : asked ≡ wanted = sym (ap asked_of c.in-Ok-Some-Run.field-0-0-is) ∙ same_Some _ wanted (exact.1 is) in
    offered_for (g.F.Folder.files c.args.folder.now) asked wanted same (g.S.Source.left c.args.input.now) (g.S.Source.left c.answer_file.new.source)
    (g.K.Sink.taken c.args.out.now) (g.K.Sink.taken c.answer_file.new.out) _ _ c.answer_file.result.status c.answer_file.ensures.offered

pub returns-in-Ok-Some-Feeds-clause-offered : goal.returns-in-Ok-Some-Feeds-clause-offered
returns-in-Ok-Some-Feeds-clause-offered g c = λ wanted is.
    let exact = rw c.in-Ok-Some-Feeds.field-0-is at c.in-Ok-Some-Feeds.ensures.exact wanted in
    let asked = Feeds c.in-Ok-Some-Feeds.name.now c.in-Ok-Some-Feeds.file_a.now c.in-Ok-Some-Feeds.file_b.now c.in-Ok-Some-Feeds.options in
    let same : asked ≡ wanted = sym (ap asked_of c.in-Ok-Some-Feeds.field-0-0-is) ∙ same_Some _ wanted (exact.1 is) in
    let left = g.S.Source.left c.args.input.now in
    offered_for (g.F.Folder.files c.args.folder.now) asked wanted same left left
    (g.K.Sink.taken c.args.out.now) (g.K.Sink.taken c.answer_feeds.new.out) _ _ c.answer_feeds.result.status (c.answer_feeds.ensures.offered left)

pub returns-in-Ok-Some-Sum-clause-read_no_more_at_output : goal.returns-in-Ok-Some-Sum-clause-read_no_more_at_output
returns-in-Ok-Some-Sum-clause-read_no_more_at_output g c = λ wanted is writes output.
    let exact = rw c.in-Ok-Some-Sum.field-0-is at c.in-Ok-Some-Sum.ensures.exact wanted in
    let asked = Sum c.in-Ok-Some-Sum.size c.in-Ok-Some-Sum.options in
    let same : asked ≡ wanted = sym (ap asked_of c.in-Ok-Some-Sum.field-0-0-is) ∙ same_Some _ wanted (exact.1 is) in
    let folder = g.F.Folder.files c.args.folder.now in
    let S = g.S.Source in
    let K = g.K.Sink in
    stops_for folder asked wanted same (S.left c.args.input.now) (S.left c.answer_sum.new.source) (K.taken c.args.out.now) (K.taken c.answer_sum.new.out) (S.faults c.args.input.now) (S.faults c.answer_sum.new.source)
    (λ one. reads_no_more folder asked (sum_shape c.in-Ok-Some-Sum.size) refl (S.left c.args.input.now) (S.left c.answer_sum.new.source) (K.taken c.args.out.now) (K.taken c.answer_sum.new.out)
    (S.faults c.args.input.now) (S.faults c.answer_sum.new.source) (c.answer_sum.ensures.read_no_more_at_output one output)) writes

pub returns-in-Ok-Some-Run-clause-read_no_more_at_output : goal.returns-in-Ok-Some-Run-clause-read_no_more_at_output
returns-in-Ok-Some-Run-clause-read_no_more_at_output g c = λ wanted is writes output.
    let exact = rw c.in-Ok-Some-Run.field-0-is at c.in-Ok-Some-Run.ensures.exact wanted in
    let asked = Run c.in-Ok-Some-Run.name.now c.in-Ok-Some-Run.options in
    let same : asked ≡ wanted = sym (ap asked_of c.in-Ok-Some-Run.field-0-0-is) ∙ same_Some _ wanted (exact.1 is) in
    let S = g.S.Source in
    let K = g.K.Sink in
    stops_for (g.F.Folder.files c.args.folder.now) asked wanted same (S.left c.args.input.now) (S.left c.answer_file.new.source) (K.taken c.args.out.now) (K.taken c.answer_file.new.out)
    (S.faults c.args.input.now) (S.faults c.answer_file.new.source) (λ one. c.answer_file.ensures.read_no_more_at_output one output) writes

pub returns-in-Ok-Some-Audit-clause-read_no_more_at_output : goal.returns-in-Ok-Some-Audit-clause-read_no_more_at_output
returns-in-Ok-Some-Audit-clause-read_no_more_at_output g c = λ wanted is writes output.
    let exact = rw c.in-Ok-Some-Audit.field-0-is at c.in-Ok-Some-Audit.ensures.exact wanted in
    let asked = Audit in
    let same : asked ≡ wanted = sym (ap asked_of c.in-Ok-Some-Audit.field-0-0-is) ∙ same_Some _ wanted (exact.1 is) in
    absurd (writes_late asked wanted same (λ none. none) writes)

pub returns-in-Ok-Some-Work-clause-read_no_more_at_output : goal.returns-in-Ok-Some-Work-clause-read_no_more_at_output
returns-in-Ok-Some-Work-clause-read_no_more_at_output g c = λ wanted is writes output.
    let exact = rw c.in-Ok-Some-Work.field-0-is at c.in-Ok-Some-Work.ensures.exact wanted in
    let asked = Work c.in-Ok-Some-Work.records c.in-Ok-Some-Work.options in
    let same : asked ≡ wanted = sym (ap asked_of c.in-Ok-Some-Work.field-0-0-is) ∙ same_Some _ wanted (exact.1 is) in
    absurd (writes_late asked wanted same (λ none. none) writes)

pub returns-in-Ok-Some-Work-clause-end : goal.returns-in-Ok-Some-Work-clause-end
returns-in-Ok-Some-Work-clause-end g c = λ wanted is reads done.
    let exact = rw c.in-Ok-Some-Work.field-0-is at c.in-Ok-Some-Work.ensures.exact wanted in
    let asked = Work c.in-Ok-Some-Work.records c.in-Ok-Some-Work.options in
    let same : asked ≡ wanted = sym (ap asked_of c.in-Ok-Some-Work.field-0-0-is) ∙ same_Some _ wanted (exact.1 is) in
    absurd (reads_none asked wanted same (λ none. none) reads)

pub returns-in-Ok-Some-Slow-clause-read_no_more_at_output : goal.returns-in-Ok-Some-Slow-clause-read_no_more_at_output
returns-in-Ok-Some-Slow-clause-read_no_more_at_output g c = λ wanted is writes output.
    let exact = rw c.in-Ok-Some-Slow.field-0-is at c.in-Ok-Some-Slow.ensures.exact wanted in
    let asked = Slow c.in-Ok-Some-Slow.name.now in
    let same : asked ≡ wanted = sym (ap asked_of c.in-Ok-Some-Slow.field-0-0-is) ∙ same_Some _ wanted (exact.1 is) in
    absurd (writes_late asked wanted same (λ none. none) writes)

pub returns-in-Ok-Some-Watch-clause-read_no_more_at_output : goal.returns-in-Ok-Some-Watch-clause-read_no_more_at_output
returns-in-Ok-Some-Watch-clause-read_no_more_at_output g c = λ wanted is writes output.
    let exact = rw c.in-Ok-Some-Watch.field-0-is at c.in-Ok-Some-Watch.ensures.exact wanted in
    let asked = Watch c.in-Ok-Some-Watch.name.now c.in-Ok-Some-Watch.key.now c.in-Ok-Some-Watch.options in
    let same : asked ≡ wanted = sym (ap asked_of c.in-Ok-Some-Watch.field-0-0-is) ∙ same_Some _ wanted (exact.1 is) in
    absurd (writes_late asked wanted same (λ none. none) writes)

pub returns-in-Ok-Some-Feeds-clause-read_no_more_at_output : goal.returns-in-Ok-Some-Feeds-clause-read_no_more_at_output
returns-in-Ok-Some-Feeds-clause-read_no_more_at_output g c = λ wanted is writes output.
    let exact = rw c.in-Ok-Some-Feeds.field-0-is at c.in-Ok-Some-Feeds.ensures.exact wanted in
    let asked = Feeds c.in-Ok-Some-Feeds.name.now c.in-Ok-Some-Feeds.file_a.now c.in-Ok-Some-Feeds.file_b.now c.in-Ok-Some-Feeds.options in
    let same : asked ≡ wanted = sym (ap asked_of c.in-Ok-Some-Feeds.field-0-0-is) ∙ same_Some _ wanted (exact.1 is) in
    absurd (writes_late asked wanted same (λ none. none) writes)

pub returns-in-Ok-Some-Feeds-clause-end : goal.returns-in-Ok-Some-Feeds-clause-end
returns-in-Ok-Some-Feeds-clause-end g c = λ wanted is reads done.
    let exact = rw c.in-Ok-Some-Feeds.field-0-is at c.in-Ok-Some-Feeds.ensures.exact wanted in
    let asked = Feeds c.in-Ok-Some-Feeds.name.now c.in-Ok-Some-Feeds.file_a.now c.in-Ok-Some-Feeds.file_b.now c.in-Ok-Some-Feeds.options in
    let same : asked ≡ wanted = sym (ap asked_of c.in-Ok-Some-Feeds.field-0-0-is) ∙ same_Some _ wanted (exact.1 is) in
    absurd (reads_none asked wanted same (λ none. none) reads)

pub returns-in-Ok-Some-Part-clause-read_no_more_at_output : goal.returns-in-Ok-Some-Part-clause-read_no_more_at_output
returns-in-Ok-Some-Part-clause-read_no_more_at_output g c = λ wanted is writes output.
    let exact = rw c.in-Ok-Some-Part.field-0-is at c.in-Ok-Some-Part.ensures.exact wanted in
    let asked = Part c.in-Ok-Some-Part.name.now c.in-Ok-Some-Part.options in
    let same : asked ≡ wanted = sym (ap asked_of c.in-Ok-Some-Part.field-0-0-is) ∙ same_Some _ wanted (exact.1 is) in
    absurd (writes_late asked wanted same (λ none. none) writes)

pub returns-in-Ok-Some-Save-clause-read_no_more_at_output : goal.returns-in-Ok-Some-Save-clause-read_no_more_at_output
returns-in-Ok-Some-Save-clause-read_no_more_at_output g c = λ wanted is writes output.
    let exact = rw c.in-Ok-Some-Save.field-0-is at c.in-Ok-Some-Save.ensures.exact wanted in
    let asked = Save c.in-Ok-Some-Save.name.now in
    let same : asked ≡ wanted = sym (ap asked_of c.in-Ok-Some-Save.field-0-0-is) ∙ same_Some _ wanted (exact.1 is) in
    absurd (writes_late asked wanted same (λ none. none) writes)

pub returns-in-Ok-Some-Resume-clause-read_no_more_at_output : goal.returns-in-Ok-Some-Resume-clause-read_no_more_at_output
returns-in-Ok-Some-Resume-clause-read_no_more_at_output g c = λ wanted is writes output.
    let exact = rw c.in-Ok-Some-Resume.field-0-is at c.in-Ok-Some-Resume.ensures.exact wanted in
    let asked = Resume c.in-Ok-Some-Resume.name.now c.in-Ok-Some-Resume.checkpoint.now c.in-Ok-Some-Resume.options in
    let same : asked ≡ wanted = sym (ap asked_of c.in-Ok-Some-Resume.field-0-0-is) ∙ same_Some _ wanted (exact.1 is) in
    absurd (writes_late asked wanted same (λ none. none) writes)
