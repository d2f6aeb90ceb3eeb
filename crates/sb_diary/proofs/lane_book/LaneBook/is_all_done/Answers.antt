use Rattle.std.proofs.Common.{eqb, sym, ap, ◌∙◌}
use Rattle.std.specs.List.{list_all}
use Rattle.sb_diary.specs.Legal.{LaneAudit, is_done}
use Rattle.sb_diary.proofs.Recounts.{all-done}
use Rattle.sb_diary.proofs.lane_book.LaneBook.is_all_done.Goals as goal

pub returns : goal.returns
returns c =
    ap (λ n. eqb n 0) c.self.invariant.all ∙ sym (all-done c.self.inside.came.items)
    ∙ ap (λ (l : LaneAudit). list_all (λ c. is_done c.stage) l.came) c.self.view_is
