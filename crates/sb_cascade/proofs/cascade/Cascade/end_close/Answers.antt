use Rattle.std.proofs.Common.{◌≡◌, ◌∷◌, [], true, refl, ap, ◌∙◌}
use Rattle.sb_shared.specs.declared.telling.Change.TheVariants.{End}
use Rattle.sb_cascade.specs.Calls.{rows_left}
use Rattle.sb_shared.specs.Doings.{close_of}
use Rattle.sb_shared.specs.SharedNodes.{lines_of}
use Rattle.sb_cascade.specs.Told.{IsEnd}
use Rattle.sb_shared.specs.Views.{after, held_by, as_list}
use Rattle.sb_shared.proofs.leavings.ClosingsTold.{ends_does}
use Rattle.sb_shared.proofs.entered.HeldHere.{closing_here}
use Rattle.sb_cascade.proofs.leavings.LeftTurns.{does_at, found_by, knew, left_by}
use Rattle.sb_cascade.proofs.cascade.Cascade.end_close.Goals as goal

pub end-requires : goal.end-requires
end-requires g c =
    let p = c.args.pass.now in
    let k = c.args.closing in
    let w = p.seat.me.0.client in
    let x = c.enter-guard.result.state in
    let has : held_by w ≡ close_of k (rows_left k p) true ∷ [] = ap as_list c.requires.pass.1.0 in
    let f = found_by c.args.self.now.setting _ w k.node x c.args.self.now.same c.enter-guard.ensures.finds in
    let at = closing_here c.args.self.now.setting w k.node x f k (rows_left k p) true has refl in
    record { lane = (at.0, at.1, at.2, at.3) }

pub leave-requires-clause-does : goal.leave-requires-clause-does
leave-requires-clause-does g c =
    let a = c.args.self.now.setting in
    let p = c.args.pass.now in
    let k = c.args.closing in
    let w = p.seat.me.0.client in
    let r = c.enter-guard.result in
    let q = c.enter-guard.new.pass in
    let turn = c.enter-guard.ensures.turn in
    let has : held_by w ≡ close_of k (rows_left k p) true ∷ [] = ap as_list c.requires.pass.1.0 in
    let f = found_by a _ w k.node r.state c.args.self.now.same c.enter-guard.ensures.finds in
    let at = closing_here a w k.node r.state f k (rows_left k p) true has refl in
    does_at a q.me.0.client w q.me.0.seen r.node k.node r.found.value r.state c.end.new.self (End c.of-told.result) turn.0 (knew p.seat.me q.me k.node turn.2.0 r.state _ turn.2.1) turn.1
    (ends_does a w q.me.0.seen k.node r.state c.end.new.self c.of-told.result k c.of-told.ensures at.0 refl
    (c.end.ensures at.0 at.1) (has ∙ ap (λ rows. close_of k rows true ∷ []) c.requires.rows))

pub returns-clause-left : goal.returns-clause-left
returns-clause-left g c =
    let p = c.args.pass.now in
    let k = c.args.closing in
    let r = c.enter-guard.result in
    let q = c.enter-guard.new.pass in
    let turn = c.enter-guard.ensures.turn in
    left_by k.node (IsEnd k) p (record { seat = c.leave.new.pass; delivered = p.delivered; gone = p.gone; kept = p.kept; link = _ }) q.me r.node turn.2.0 (lines_of c.end.new.self) r.state (End c.of-told.result) (after q.me.0.client r.node (End c.of-told.result)) _ _ turn.0 turn.2.1 c.leave.ensures.turn
    (c.of-told.result, refl, c.of-told.ensures)
