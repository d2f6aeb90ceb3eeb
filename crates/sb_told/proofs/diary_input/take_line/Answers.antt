use Rattle.std.proofs.Common.{refl, subst}
use Rattle.sb_feed.specs.outside.Readings.{reading}
use Rattle.sb_diary.specs.Audits.{IsLegalText, IsStopAt}
use Rattle.sb_told.specs.DiaryReads.{StopsDiaryAt}
use Rattle.sb_told.specs.declared.diary_input.DiaryHalt.TheVariants.{Refused}
use Rattle.sb_told.proofs.DiaryReading.{gave_line, gave_long, gave_refused, long_line, not_long, refused_line}
use Rattle.sb_told.proofs.diary_input.take_line.Goals as goal

pub returns-in-Ok-clause-takes : goal.returns-in-Ok-clause-takes
returns-in-Ok-clause-takes g c = (
  c.advance.new.self.line,
  gave_line g.S.Source.left g.S.Source.faults c.args.lines.now.halt (reading c.args.source.now c.args.lines.now) (reading c.advance.new.source c.advance.new.self) refl c.requires.going c.in-Line.ensures.advances,
  subst (λ l. IsLegalText c.args.auditor.now.text l c.line-in-Line.new.self.text) c.line.ensures (c.in-Ok.ensures.answer c.requires.takes),
  c.in-Ok.ensures.stop c.requires.takes,
)

pub returns-in-Err-Fault-clause-takes : goal.returns-in-Err-Fault-clause-takes
returns-in-Err-Fault-clause-takes g c =
    let answer = c.in-Err-Fault.ensures.answer c.requires.takes in
    let line = c.advance.new.self.line in
    let t = c.args.auditor.now.text in (
      gave_refused g.S.Source.left g.S.Source.faults (StopsDiaryAt t (Refused c.in-Err-Fault.fault)) c.args.lines.now.halt (reading c.args.source.now c.args.lines.now) (reading c.advance.new.source c.advance.new.self) refl c.requires.going c.in-Line.ensures.advances
          (λ ended others. (line, others, refl, refused_line t line c.in-Err-Fault.field-0 c.in-Err-Fault.fault c.in-Err-Fault.field-0-is (not_long line (c.in-Line.ensures.short refl)) (subst (λ l. IsStopAt t l c.in-Err-Fault.field-0) c.line.ensures answer.0))),
      answer.1,
    )

pub returns-in-TooLong-clause-takes : goal.returns-in-TooLong-clause-takes
returns-in-TooLong-clause-takes g c =
    let t = c.args.auditor.now.text in (
      gave_long g.S.Source.left g.S.Source.faults (StopsDiaryAt t (Refused c.too_long.result)) c.args.lines.now.halt (reading c.args.source.now c.args.lines.now) (reading c.advance.new.source c.advance.new.self) refl c.requires.going c.in-TooLong.ensures.advances
          (λ ended line others long. (line, others, refl, long_line t line c.too_long.result c.too_long.ensures.most c.too_long.ensures.value long)),
      refl,
    )
