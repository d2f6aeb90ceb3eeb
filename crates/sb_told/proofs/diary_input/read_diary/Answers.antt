use Rattle.std.proofs.Common.{ap, sym}
use Rattle.sb_feed.specs.outside.Readings.{Held}
use Rattle.sb_told.proofs.DiaryReading.{diary-more, diary-starts, diary-stops}
use Rattle.sb_told.proofs.diary_input.read_diary.Goals as goal

pub lines-init : goal.lines-init
lines-init g c =
    record {
      taking = rw (c.new-lines.ensures, c.new-auditor.ensures) (diary-starts (g.S.Source.left c.args.source.now) (g.S.Source.faults c.args.source.now));
      ends = λ e. absurd (cc (sym (ap (λ (l : Held). l.halt) c.new-lines.ensures), e));
    }

pub lines-preserved : goal.lines-preserved
lines-preserved g c =
    let takes = c.in_default.ensures.takes in
    record {
      taking =
          diary-more g.S.Source.left (g.S.Source.left c.args.source.now) c.lines.source c.take_line.new.source c.lines.lines c.take_line.new.lines c.lines.auditor c.take_line.new.auditor takes.0
          (g.S.Source.faults c.args.source.now) (g.S.Source.faults c.lines.source) (g.S.Source.faults c.take_line.new.source)
          c.lines.invariant.taking takes.1 takes.2 takes.3 c.in_default.ensures.same;
      ends = c.in_default.ensures.end c.lines.invariant.ends;
    }

pub returns-in-Err-clause-reads : goal.returns-in-Err-clause-reads
returns-in-Err-clause-reads g c =
    let takes = c.in-Err.ensures.takes in
    diary-stops g.S.Source.left (g.S.Source.left c.args.source.now) c.lines.source c.take_line.new.source c.lines.lines c.take_line.new.lines c.lines.auditor c.take_line.new.auditor c.in-Err.halt c.end.result
    (g.S.Source.faults c.args.source.now) (g.S.Source.faults c.lines.source) c.lines.invariant.taking takes.0 takes.1 c.end.ensures
