use Rattle.std.proofs.Common.{sym, subst}
use Rattle.sb_diary.specs.declared.event.DiaryEvent.{DiaryEvent}
use Rattle.sb_diary.specs.Legal.{after_line}
use Rattle.sb_diary.specs.Books.{Answers}
use Rattle.sb_diary.proofs.node_book.NodeBook.event.Goals as goal

pub returns-in-Begin : goal.returns-in-Begin
returns-in-Begin c =
    subst (λ (e : DiaryEvent). Answers (after_line c.args.self.now e) c.args.self.now c.begin.new.self c.begin.result) (sym c.in-Begin.is) (c.begin.ensures c.in-Begin.rows)
