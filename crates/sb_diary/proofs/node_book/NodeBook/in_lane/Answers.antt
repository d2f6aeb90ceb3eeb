use Rattle.std.proofs.Common.{◌≡◌, Some, ap, subst}
use Rattle.std.specs.Prelude.{slice_get}
use Rattle.sb_diary.specs.Legal.{Audit, with_lane}
use Rattle.sb_diary.specs.Books.{Answers, in_lane}
use Rattle.sb_diary.proofs.Nodes.{lane-answers, read-there}
use Rattle.std.proofs.Common.{refl}
use Rattle.sb_diary.proofs.node_book.NodeBook.in_lane.Goals as goal

pub returns : goal.returns
returns c =
    let a : Audit = record { lanes = c.self.inside.lanes.items; closing = c.self.inside.closing } in
    let l = c.args.lane in
    let event = c.args.event.now in
    let lane = c.in-Some.book.now in
    let at : slice_get a.lanes l ≡ Some lane = read-there a.lanes a.lanes l lane refl c.in-Some.ensures.item.3.0 c.in-Some.ensures.value in
    subst (λ (b : Audit). Answers (in_lane l event b) b (with_lane l c.event.new.self a) c.event.result) c.self.view_is
    (lane-answers a l event lane c.event.new.self c.event.result at c.event.ensures)
