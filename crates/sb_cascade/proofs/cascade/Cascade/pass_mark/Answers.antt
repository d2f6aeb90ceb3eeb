use Rattle.std.proofs.Common.{◌≡◌, ◌∷◌, [], Some, false, true, refl, sym, ap, ◌∙◌}
use Rattle.sb_hand.specs.node.declared.closing.Closing.{Closing}
use Rattle.sb_shared.specs.declared.telling.Change.TheVariants.{Pass}
use Rattle.sb_cascade.specs.Calls.{rows_left}
use Rattle.sb_shared.specs.Doings.{close_of}
use Rattle.sb_shared.specs.SharedNodes.{lines_of}
use Rattle.sb_cascade.specs.Told.{IsPassing}
use Rattle.sb_shared.specs.Views.{after, held_by, as_list}
use Rattle.sb_shared.proofs.leavings.ClosingsTold.{passes_does}
use Rattle.sb_shared.proofs.entered.FoundLanes.{below_lane}
use Rattle.sb_shared.proofs.links.LanesBelow.{below_is}
use Rattle.sb_cascade.proofs.leavings.LeftTurns.{Seated, does_at, found_by, knew, left_by}
use Rattle.sb_cascade.proofs.cascade.Cascade.pass_mark.Goals as goal

pub seal-requires : goal.seal-requires
seal-requires g c =
    let a = c.args.self.now.setting in
    let k = c.args.closing.now in
    let w = c.args.pass.now.seat.me.0.client in
    let d = c.down-down.result in
    let x = c.enter-guard.result.state in
    let f = found_by a _ w d.node x c.args.self.now.same c.enter-guard.ensures.finds in
    record { lane = below_lane a w d.node x f k.node d (below_is a.plan k.node d c.down-down.ensures.down) refl }

pub leave-requires-clause-does : goal.leave-requires-clause-does
leave-requires-clause-does g c =
    let a = c.args.self.now.setting in
    let p = c.args.pass.now in
    let k = c.args.closing.now in
    let w = p.seat.me.0.client in
    let d = c.down-down.result in
    let r = c.enter-guard.result in
    let q = c.enter-guard.new.pass in
    let turn = c.enter-guard.ensures.turn in
    let has : held_by w ≡ close_of k (rows_left k p) false ∷ [] = ap as_list c.requires.pass.1.0 in
    let f = found_by a _ w d.node r.state c.args.self.now.same c.enter-guard.ensures.finds in
    let under = below_is a.plan k.node d c.down-down.ensures.down in
    let at = below_lane a w d.node r.state f k.node d under refl in
    does_at a q.me.0.client w q.me.0.seen r.node d.node r.found.value r.state c.seal.new.self (Pass c.of-told.result) turn.0 (knew p.seat.me q.me d.node turn.2.0 r.state _ turn.2.1) turn.1
    (passes_does a w q.me.0.seen d.node r.state c.seal.new.self c.of-told.result k c.of-told.ensures d at.0 under refl
    (c.in-Ok.ensures.seals at.0 at.1) (has ∙ ap (λ rows. close_of k rows false ∷ []) c.requires.rows))

pub returns-in-Ok-clause-passed : goal.returns-in-Ok-clause-passed
returns-in-Ok-clause-passed g c =
    let a = c.args.self.now.setting in
    let p = c.args.pass.now in
    let k = c.args.closing.now in
    let d = c.down-down.result in
    let r = c.enter-guard.result in
    let q = c.enter-guard.new.pass in
    let turn = c.enter-guard.ensures.turn in (
      (
        ap (λ (z : Seated). z.0.client.held) c.leave.ensures.turn ∙ ap (λ (z : Closing). Some (close_of z [] true)) c.of-told.ensures
            ∙ ap (λ rows. Some (close_of k rows true)) (sym c.requires.rows),
        c.requires.pass.1.1,
      ),
      (
        d,
        below_is a.plan k.node d c.down-down.ensures.down,
        left_by d.node (IsPassing k) p (record { seat = c.leave.new.pass; delivered = p.delivered; gone = p.gone; kept = p.kept; link = _ }) q.me r.node turn.2.0 (lines_of c.seal.new.self) r.state (Pass c.of-told.result) (after q.me.0.client r.node (Pass c.of-told.result)) _ _ turn.0 turn.2.1 c.leave.ensures.turn
            (c.of-told.result, refl, c.of-told.ensures),
      ),
    )
