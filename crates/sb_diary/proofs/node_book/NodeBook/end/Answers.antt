use Rattle.std.proofs.Common.{◌≡◌, true, false, Some, None, refl, sym, ap, subst, ◌∙◌, eq-eqb}
use Rattle.std.specs.Prelude.{◌==◌, slice_get, slice_set}
use Rattle.sb_diary.specs.declared.event.DiaryEvent.TheVariants.{End}
use Rattle.sb_diary.specs.Legal.{LaneAudit, Audit, after_line, with_lane}
use Rattle.sb_diary.proofs.Nodes.{ended-is, lane-same, read-there}
use Rattle.sb_diary.proofs.node_book.NodeBook.end.Goals as goal

pub returns-then-not-is_oldest : goal.returns-then-not-is_oldest
returns-then-not-is_oldest c =
    let a : Audit = record { lanes = c.self.inside.lanes.items; closing = c.self.inside.closing } in
    let l = c.args.lane in
    let epoch = c.args.epoch in
    let lane = c.in-Some-get_mut.book.now in
    let at : slice_get a.lanes l ≡ Some lane = read-there a.lanes a.lanes l lane refl c.in-Some-get_mut.ensures.item.3.0 c.in-Some-get_mut.ensures.value in
    let closing : a.closing ≡ Some l = c.in-Some.is ∙ ap Some c.if-closing-lane.false in
    let later : (epoch == lane.ended) ≡ false = sym c.is_oldest.ensures ∙ c.if-not-is_oldest.true in
    subst (λ (b : Audit). (after_line b (End l epoch) ≡ None) × (with_lane l lane a ≡ b)) c.self.view_is
    (ended-is a l epoch lane false at closing (eq-eqb l l refl) later, lane-same a l lane lane at refl)

pub end-requires : goal.end-requires
end-requires c =
    let a : Audit = record { lanes = c.self.inside.lanes.items; closing = c.self.inside.closing } in
    let l = c.args.lane in
    let lane = c.in-Some-get_mut.book.now in
    let at : slice_get a.lanes l ≡ Some lane = read-there a.lanes a.lanes l lane refl c.in-Some-get_mut.ensures.item.3.0 c.in-Some-get_mut.ensures.value in
    c.self.invariant l lane (c.in-Some.is ∙ ap Some c.if-closing-lane.false) at

pub returns : goal.returns
returns c =
    let a : Audit = record { lanes = c.self.inside.lanes.items; closing = c.self.inside.closing } in
    let l = c.args.lane in
    let epoch = c.args.epoch in
    let lane = c.in-Some-get_mut.book.now in
    let at : slice_get a.lanes l ≡ Some lane = read-there a.lanes a.lanes l lane refl c.in-Some-get_mut.ensures.item.3.0 c.in-Some-get_mut.ensures.value in
    let closing : a.closing ≡ Some l = c.in-Some.is ∙ ap Some c.if-closing-lane.false in
    let oldest : (epoch == lane.ended) ≡ true = sym c.is_oldest.ensures ∙ c.if-not-is_oldest.false in
    subst (λ (b : Audit). after_line b (End l epoch) ≡ Some (record { lanes = slice_set a.lanes l c.end.new.self; closing = None })) c.self.view_is
    (ended-is a l epoch lane true at closing (eq-eqb l l refl) oldest
    ∙ ap (λ (x : LaneAudit). Some (record { lanes = slice_set a.lanes l x; closing = None })) (sym c.end.ensures))
