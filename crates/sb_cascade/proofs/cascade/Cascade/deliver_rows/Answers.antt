use Rattle.std.proofs.Common.{rules, arith, ◌≡◌, ◌<◌, ◌≤◌, ℕ, subst, ◌∷◌, [], length, drop, false, refl, sym, ap, ◌∙◌}
use Rattle.std.specs.Prelude.{min}
use Rattle.std.proofs.lemmas.List.{length-drop}
use Rattle.sb_shared.specs.declared.telling.Change.TheVariants.{Rows}
use Rattle.sb_cascade.specs.Calls.{rows_left}
use Rattle.sb_shared.specs.Doings.{close_of}
use Rattle.sb_shared.specs.SharedNodes.{lines_of}
use Rattle.sb_cascade.specs.Told.{AreRows}
use Rattle.sb_shared.specs.Views.{after, held_by, as_list}
use Rattle.sb_shared.proofs.leavings.ClosingsTold.{rows_does}
use Rattle.sb_shared.proofs.entered.FoundLanes.{below_lane}
use Rattle.sb_shared.proofs.links.LanesBelow.{below_is}
use Rattle.sb_shared.proofs.entered.LinkHere.{close-link}
use Rattle.sb_cascade.proofs.leavings.LeftTurns.{does_at, found_by, knew, left_by}
use Rattle.sb_shared.proofs.entered.OrderHere.{order_here, rows_order}
use Rattle.sb_shared.proofs.leavings.RowsLeft.{next_rows, rows_fewer, rows_some}
use Rattle.sb_cascade.proofs.cascade.Cascade.deliver_rows.Goals as goal

pub put-requires-clause-lane : goal.put-requires-clause-lane
put-requires-clause-lane g c =
    let a = c.args.self.now.setting in
    let k = c.args.closing.now in
    let w = c.args.pass.now.seat.me.0.client in
    let d = c.down-down.result in
    let x = c.enter-guard.result.state in
    let f = found_by a _ w d.node x c.args.self.now.same c.enter-guard.ensures.finds in
    below_lane a w d.node x f k.node d (below_is a.plan k.node d c.down-down.ensures.down) refl

pub put-requires-clause-order : goal.put-requires-clause-order
put-requires-clause-order g c =
    let a = c.args.self.now.setting in
    let w = c.args.pass.now.seat.me.0.client in
    let d = c.down-down.result in
    let x = c.enter-guard.result.state in
    let f = found_by a _ w d.node x c.args.self.now.same c.enter-guard.ensures.finds in
    order_here a w d.node x f d.lane

pub put-requires-clause-later : goal.put-requires-clause-later
put-requires-clause-later g c =
    let a = c.args.self.now.setting in
    let p = c.args.pass.now in
    let k = c.args.closing.now in
    let w = p.seat.me.0.client in
    let d = c.down-down.result in
    let x = c.enter-guard.result.state in
    let has : held_by w ≡ close_of k (rows_left k p) false ∷ [] = ap as_list c.requires.pass.1.0 in
    let f = found_by a _ w d.node x c.args.self.now.same c.enter-guard.ensures.finds in
    λ at in_it room. rows_order a w d.node x f k (rows_left k p) has d (below_is a.plan k.node d c.down-down.ensures.down) refl at in_it

pub put-requires-clause-here : goal.put-requires-clause-here
put-requires-clause-here g c =
    let a = c.args.self.now.setting in
    let p = c.args.pass.now in
    let k = c.args.closing.now in
    let w = p.seat.me.0.client in
    let d = c.down-down.result in
    let x = c.enter-guard.result.state in
    let has : held_by w ≡ close_of k (rows_left k p) false ∷ [] = ap as_list c.requires.pass.1.0 in
    let f = found_by a _ w d.node x c.args.self.now.same c.enter-guard.ensures.finds in
    close-link a w d x f k (rows_left k p) has (below_is a.plan k.node d c.down-down.ensures.down) p.link (sym c.requires.pass.0.knows.link)

pub leave-requires-clause-does : goal.leave-requires-clause-does
leave-requires-clause-does g c =
    let a = c.args.self.now.setting in
    let p = c.args.pass.now in
    let k = c.args.closing.now in
    let w = p.seat.me.0.client in
    let d = c.down-down.result in
    let r = c.enter-guard.result in
    let q = c.enter-guard.new.pass in
    let turn = c.enter-guard.ensures.turn in
    let has : held_by w ≡ close_of k (rows_left k p) false ∷ [] = ap as_list c.requires.pass.1.0 in
    let f = found_by a _ w d.node r.state c.args.self.now.same c.enter-guard.ensures.finds in
    let under = below_is a.plan k.node d c.down-down.ensures.down in
    let at = below_lane a w d.node r.state f k.node d under refl in
    let put = c.in-Ok.ensures.puts at.0 at.1 in
    let more : p.gone < length k.rows.items = search rules in
    let counted : c.min-count.result ≡ min a.bundle (length (drop p.gone k.rows.items)) = rw (c.split_at.ensures.back, c.as_slice.ensures.value) at c.min-count.ensures in
    let given = rw (c.split_at.ensures.back, c.as_slice.ensures.value) at c.in_ok-records.ensures in
    does_at a q.me.0.client w q.me.0.seen r.node d.node r.found.value r.state c.put.new.self (Rows c.of-told.result p.gone a.bundle c.in-Ok.place) turn.0 (knew p.seat.me q.me d.node turn.2.0 r.state _ turn.2.1) turn.1
    (rows_does a w q.me.0.seen d.node r.state c.put.new.self c.of-told.result k c.of-told.ensures p.gone a.bundle c.in-Ok.place d c.in_ok-records.records at.0 refl under refl
    (given ∙ next_rows p.gone c.min-count.result a.bundle k.rows.items counted) (rows_some p.gone k.rows.items more) put.0 put.1 has)

pub returns-in-Ok-clause-more : goal.returns-in-Ok-clause-more
returns-in-Ok-clause-more g c =
    let a = c.args.self.now.setting in
    let p = c.args.pass.now in
    let k = c.args.closing.now in
    let d = c.down-down.result in
    let r = c.enter-guard.result in
    let q = c.enter-guard.new.pass in
    let turn = c.enter-guard.ensures.turn in
    let more : p.gone < length k.rows.items = search rules in
    let told = Rows c.of-told.result p.gone a.bundle c.in-Ok.place in (
      omega (arith, length-drop p.gone k.rows.items, more),
      (
        d,
        below_is a.plan k.node d c.down-down.ensures.down,
        left_by d.node (AreRows k) p (record { seat = c.leave.new.pass; delivered = p.delivered; gone = _; kept = p.kept; link = _ }) q.me r.node turn.2.0 (lines_of c.put.new.self) r.state told (after q.me.0.client r.node told) _ _ turn.0 turn.2.1 c.leave.ensures.turn
            (c.of-told.result, p.gone, a.bundle, c.in-Ok.place, refl, c.of-told.ensures),
      ),
    )

pub returns-in-Ok-clause-fewer : goal.returns-in-Ok-clause-fewer
returns-in-Ok-clause-fewer g c is_true =
    let a = c.args.self.now.setting in
    let p = c.args.pass.now in
    let k = c.args.closing.now in
    let w = p.seat.me.0.client in
    let d = c.down-down.result in
    let f = found_by a _ w d.node c.enter-guard.result.state c.args.self.now.same c.enter-guard.ensures.finds in
    let more : p.gone < length k.rows.items = search rules in
    let counted : c.min-count.result ≡ min a.bundle (length (drop p.gone k.rows.items)) = rw (c.split_at.ensures.back, c.as_slice.ensures.value) at c.min-count.ensures in
    rows_fewer p.gone c.min-count.result a.bundle k.rows.items counted more (subst (λ (n : ℕ). 1 ≤ n) f.bundle f.sound.bundle.0)
