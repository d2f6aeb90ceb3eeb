use Rattle.std.proofs.Common.{◌≡◌, ◌-◌, Some}
use Rattle.sb_feed.specs.outside.declared.lines.Halt.TheVariants as halt
use Rattle.sb_diary.specs.Audits.{lines_in}
use Rattle.sb_told.proofs.DiaryReading.{TakingDiary}
use Rattle.sb_told.proofs.diary_input.read_diary.Given as goal

abbrev pub invariant-lines : goal.invariant-lines
invariant-lines g l =
    record {
      taking : TakingDiary (g.S.Source.left l.initial.source) (g.S.Source.left l.source) l.lines l.auditor (g.S.Source.faults l.initial.source) (g.S.Source.faults l.source);
      ends : l.lines.halt ≡ Some halt.End → g.S.Source.has_ended l.source;
    }

abbrev pub decreases-lines : goal.decreases-lines
decreases-lines g l = 4294967296 - lines_in l.auditor.text
