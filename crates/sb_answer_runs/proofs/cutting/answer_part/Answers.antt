use Rattle.std.proofs.Common.{inr, subst, sym}
use Rattle.sb_answers.specs.Faults.{HasCause, HidesNoFault, faults_of}
use Rattle.sb_answer_runs.proofs.cutting.answer_part.Goals as goal

pub returns-in-Ok-clause-cause : goal.returns-in-Ok-clause-cause
returns-in-Ok-clause-cause g c =
    let before = faults_of (g.S.Source.faults c.args.source.now) (g.K.Sink.sink_state c.args.out.now) (g.F.Folder.failed c.args.folder.now) in
    subst (λ loads. HasCause before (faults_of (g.S.Source.faults c.answer_part_of.new.source) (g.K.Sink.sink_state c.answer_part_of.new.out) loads) c.answer_part_of.result.status)
    (sym c.in-Ok.ensures.cause) (c.answer_part_of.ensures.cause (g.F.Folder.failed c.args.folder.now))

pub returns-in-Ok-clause-no_fault_hidden : goal.returns-in-Ok-clause-no_fault_hidden
returns-in-Ok-clause-no_fault_hidden g c =
    let before = faults_of (g.S.Source.faults c.args.source.now) (g.K.Sink.sink_state c.args.out.now) (g.F.Folder.failed c.args.folder.now) in
    subst (λ loads. HidesNoFault before (faults_of (g.S.Source.faults c.answer_part_of.new.source) (g.K.Sink.sink_state c.answer_part_of.new.out) loads) c.answer_part_of.result.status)
    (sym c.in-Ok.ensures.cause) (c.answer_part_of.ensures.no_fault_hidden (g.F.Folder.failed c.args.folder.now))

pub returns-in-Ok-clause-answer : goal.returns-in-Ok-clause-answer
returns-in-Ok-clause-answer g c = inr (_, (c.in-Ok.ensures.plan, λ files told. c.in-Ok.ensures.exact files told), c.answer_part_of.ensures.answer)
