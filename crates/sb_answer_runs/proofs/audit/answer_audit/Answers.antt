use Rattle.std.proofs.Common.{refl}
use Rattle.sb_answers.specs.told.declared.diary_input.DiaryHalt.TheVariants as halt
use Rattle.sb_answers.specs.told.declared.status.Status.TheVariants.{Input, Memory, Audit}
use Rattle.sb_answer_runs.proofs.AuditAnswers.{audit_answer}
use Rattle.sb_answer_runs.proofs.audit.answer_audit.Goals as goal

pub returns-in-End-clause-answer : goal.returns-in-End-clause-answer
returns-in-End-clause-answer g c =
    audit_answer (g.S.Source.left c.args.source.now) (g.S.Source.left c.read_diary-input.new.source) (g.K.Sink.taken c.args.out.now) (g.K.Sink.taken c.print.new.out)
    c.read_diary-input.result halt.End c.print.result c.of.result c.read_diary-input.ensures.reads c.in-End.is (rw (c.as_slice.ensures.bytes, c.audit_line.ensures) at c.print.ensures.printed) c.of.ensures.status c.of.ensures.dropped c.of.ensures.diaries

pub returns-in-Refused-clause-answer : goal.returns-in-Refused-clause-answer
returns-in-Refused-clause-answer g c =
    let taken = g.K.Sink.taken c.args.out.now in
    audit_answer (g.S.Source.left c.args.source.now) (g.S.Source.left c.read_diary-input.new.source) taken taken
    c.read_diary-input.result (halt.Refused c.in-Refused.fault) (Audit c.in-Refused.fault) c.of-in-Refused.result c.read_diary-input.ensures.reads c.in-Refused.is (refl, refl) c.of-in-Refused.ensures.status c.of-in-Refused.ensures.dropped c.of-in-Refused.ensures.diaries

pub returns-in-Fault-clause-answer : goal.returns-in-Fault-clause-answer
returns-in-Fault-clause-answer g c =
    let taken = g.K.Sink.taken c.args.out.now in
    audit_answer (g.S.Source.left c.args.source.now) (g.S.Source.left c.read_diary-input.new.source) taken taken
    c.read_diary-input.result halt.Fault Input c.of-in-Fault.result c.read_diary-input.ensures.reads c.in-Fault.is (refl, refl) c.of-in-Fault.ensures.status c.of-in-Fault.ensures.dropped c.of-in-Fault.ensures.diaries

pub returns-in-Memory-clause-answer : goal.returns-in-Memory-clause-answer
returns-in-Memory-clause-answer g c =
    let taken = g.K.Sink.taken c.args.out.now in
    audit_answer (g.S.Source.left c.args.source.now) (g.S.Source.left c.read_diary-input.new.source) taken taken
    c.read_diary-input.result halt.Memory Memory c.of-in-Memory.result c.read_diary-input.ensures.reads c.in-Memory.is (refl, refl) c.of-in-Memory.ensures.status c.of-in-Memory.ensures.dropped c.of-in-Memory.ensures.diaries
