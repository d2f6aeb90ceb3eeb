use Rattle.std.proofs.Common.{◌≡◌, [], Some, drop, if◌then◌else◌, refl, sym, ap, subst, ◌∙◌, arith}
use Rattle.std.specs.Prelude.{◌==◌}
use Rattle.sb_hand.specs.core.Closings.{is_sink}
use Rattle.sb_hand.specs.node.Looking.{EarlierCannotClose, IsNotYet}
use Rattle.sb_hand.specs.node.declared.closing.Closing.{Closing}
use Rattle.sb_shared.specs.declared.shared_node.BeginStop.TheVariants.{NotYet}
use Rattle.sb_shared.specs.declared.telling.Change.TheVariants.{Begin}
use Rattle.sb_shared.specs.Doings.{close_of}
use Rattle.sb_shared.specs.Shown.{operator_of}
use Rattle.sb_shared.specs.SharedNodes.{SharedView, StopsAt, lines_of}
use Rattle.sb_cascade.specs.Told.{IsBeginning}
use Rattle.sb_shared.specs.Views.{after, held_by, as_list}
use Rattle.sb_shared.proofs.leavings.ClosingsTold.{begins_does}
use Rattle.sb_shared.proofs.entered.Found.{rises_here}
use Rattle.sb_shared.proofs.entered.FoundLanes.{lanes_few, sink_here}
use Rattle.sb_cascade.proofs.leavings.LeftTurns.{Seated, does_at, found_by, knew, left_by}
use Rattle.sb_shared.proofs.lives.Shelving.{raises_by}
use Rattle.sb_cascade.proofs.cascade.Cascade.begin_close.Goals as goal

pub begin-requires-clause-lanes : goal.begin-requires-clause-lanes
begin-requires-clause-lanes g c =
    let a = c.args.self.now.setting in
    let w = c.args.pass.now.seat.me.0.client in
    let x = c.enter-guard.result.state in
    lanes_few a w c.args.node x (found_by a _ w c.args.node x c.args.self.now.same c.enter-guard.ensures.finds)

pub begin-requires-clause-rises : goal.begin-requires-clause-rises
begin-requires-clause-rises g c =
    let a = c.args.self.now.setting in
    let w = c.args.pass.now.seat.me.0.client in
    let x = c.enter-guard.result.state in
    rises_here a w c.args.node x (found_by a _ w c.args.node x c.args.self.now.same c.enter-guard.ensures.finds)

pub leave-requires-clause-does : goal.leave-requires-clause-does
leave-requires-clause-does g c =
    let a = c.args.self.now.setting in
    let p = c.args.pass.now in
    let n = c.args.node in
    let k = c.in-Ok.closing in
    let w = p.seat.me.0.client in
    let r = c.enter-guard.result in
    let q = c.enter-guard.new.pass in
    let turn = c.enter-guard.ensures.turn in
    let free : held_by w ≡ [] = ap as_list c.requires.pass.1.held in
    let f = found_by a _ w n r.state c.args.self.now.same c.enter-guard.ensures.finds in
    let sink = n == c.transforms.result in
    let is : sink ≡ is_sink (operator_of a n) = sink_here a w n r.state f c.transforms.result c.transforms.ensures.value in
    let begins = c.in-Ok.ensures.begins in
    does_at a q.me.0.client w q.me.0.seen r.node n r.found.value r.state c.begin.new.self (Begin c.of-told.result sink) turn.0 (knew p.seat.me q.me n turn.2.0 r.state _ turn.2.1) turn.1
    (begins_does a w q.me.0.seen n r.state c.begin.new.self c.of-told.result k c.of-told.ensures sink (sym is) begins.0 begins.1 free)

pub leave-requires-clause-looks : goal.leave-requires-clause-looks
leave-requires-clause-looks g c =
    let r = c.enter-guard.result in
    let k = c.in-Ok.closing in
    let first : EarlierCannotClose k.lane r.state.own.lanes.items = c.in-Ok.ensures.begins.1.first in
    let told = subst (λ (z : Closing). EarlierCannotClose z.lane r.state.own.lanes.items) (sym c.of-told.ensures) first in
    subst (λ (x : SharedView). EarlierCannotClose c.of-told.result.value.lane x.own.lanes.items) (sym c.enter-guard.ensures.turn.1) told

pub leave-requires-in-Err-NotYet-clause-looks : goal.leave-requires-in-Err-NotYet-clause-looks
leave-requires-in-Err-NotYet-clause-looks g c =
    let r = c.enter-guard.result in
    let e = c.in-Err-NotYet in
    let stops : StopsAt (NotYet e.why) r.state c.begin.new.self = subst (λ s. StopsAt s r.state c.begin.new.self) e.field-0-is e.ensures.stops in
    subst (λ (x : SharedView). IsNotYet x.own.lanes.items e.why) (sym c.enter-guard.ensures.turn.1) stops.0

pub stop-requires-clause-rule : goal.stop-requires-clause-rule
stop-requires-clause-rule g c = raises_by _ _ 3 _ (λ low. absurd (omega (arith, low)))

pub returns-in-Ok-clause-begun : goal.returns-in-Ok-clause-begun
returns-in-Ok-clause-begun g c =
    let a = c.args.self.now.setting in
    let p = c.args.pass.now in
    let n = c.args.node in
    let k = c.in-Ok.closing in
    let w = p.seat.me.0.client in
    let r = c.enter-guard.result in
    let q = c.enter-guard.new.pass in
    let turn = c.enter-guard.ensures.turn in
    let f = found_by a _ w n r.state c.args.self.now.same c.enter-guard.ensures.finds in
    let sink = n == c.transforms.result in
    let is : sink ≡ is_sink (operator_of a n) = sink_here a w n r.state f c.transforms.result c.transforms.ensures.value in (
      c.in-Ok.ensures.begins.0,
      (
        ap (λ (z : Seated). z.0.client.held) c.leave.ensures.turn ∙ ap (λ (z : Closing). Some (close_of z z.rows.items sink)) c.of-told.ensures
            ∙ ap (λ s. Some (close_of k k.rows.items s)) is,
        c.requires.pass.1.kept,
      ),
      left_by n (IsBeginning k) p (record { seat = c.leave.new.pass; delivered = p.delivered; gone = _; kept = p.kept; link = p.link }) q.me r.node turn.2.0 (lines_of c.begin.new.self) r.state (Begin c.of-told.result sink) (after q.me.0.client r.node (Begin c.of-told.result sink)) _ _ turn.0 turn.2.1 c.leave.ensures.turn
          (c.of-told.result, sink, refl, c.of-told.ensures),
    )

pub returns-in-Ok-clause-none : goal.returns-in-Ok-clause-none
returns-in-Ok-clause-none g c is_so =
    let a = c.args.self.now.setting in
    let n = c.args.node in
    let w = c.args.pass.now.seat.me.0.client in
    let r = c.enter-guard.result in
    let f = found_by a _ w n r.state c.args.self.now.same c.enter-guard.ensures.finds in
    let sink = n == c.transforms.result in
    let is : sink ≡ is_sink (operator_of a n) = sink_here a w n r.state f c.transforms.result c.transforms.ensures.value in
    let begins = c.in-Ok.ensures.begins.1 in
    ap (drop 0) (begins.rows_are ∙ ap (λ s. if s then [] else begins.rows) (is ∙ is_so))
