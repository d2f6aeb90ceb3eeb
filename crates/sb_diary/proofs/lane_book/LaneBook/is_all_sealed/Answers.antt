use Rattle.std.proofs.Common.{nat_lt, true, length, sym, ap, ◌∙◌}
use Rattle.std.specs.List.{list_all}
use Rattle.sb_diary.specs.Books.{is_below}
use Rattle.sb_diary.specs.Legal.{LaneAudit}
use Rattle.sb_diary.proofs.lane_book.LaneBook.is_all_sealed.Goals as goal

pub returns-in-Some : goal.returns-in-Some
returns-in-Some c =
    let n = length c.args.self.now.marks in
    ap (λ m. nat_lt c.in-Some.latest m) c.sealed_count.ensures ∙ ap (is_below n) (sym c.in-Some.is) ∙ sym (c.self.invariant.newest n)
    ∙ ap (λ (l : LaneAudit). list_all (λ c. nat_lt c.epoch n) l.came) c.self.view_is

pub returns-in-None : goal.returns-in-None
returns-in-None c =
    let n = length c.args.self.now.marks in
    ap (is_below n) (sym c.in-None.is) ∙ sym (c.self.invariant.newest n)
    ∙ ap (λ (l : LaneAudit). list_all (λ c. nat_lt c.epoch n) l.came) c.self.view_is
