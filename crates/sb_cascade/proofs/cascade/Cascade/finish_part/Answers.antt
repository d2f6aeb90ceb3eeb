use Rattle.std.proofs.Common.{rules, ◌≡◌, false, [], ◌∷◌, refl, sym, ap, subst, arith}
use Rattle.sb_shared.specs.turn.Passes.{about}
use Rattle.sb_shared.specs.declared.telling.Change.TheVariants.{Finish}
use Rattle.sb_shared.specs.declared.telling.Hands.{Hands}
use Rattle.sb_shared.specs.declared.telling.Setting.{Setting}
use Rattle.sb_shared.specs.Doings.{work_of}
use Rattle.sb_shared.specs.Found.{IsFound}
use Rattle.sb_shared.specs.Linked.{SetsLinks, link_left}
use Rattle.sb_shared.specs.Shown.{operator_of}
use Rattle.sb_hand.specs.work.declared.claim.Claim.{Claim}
use Rattle.sb_shared.proofs.links.LinksOwed.{absorb-sets, finish-stays}
use Rattle.sb_cascade.proofs.leavings.ToldWorks.{part_gathers}
use Rattle.sb_shared.specs.SharedNodes.{FinishesLinked, SharedView}
use Rattle.sb_shared.specs.Views.{held_by, as_list}
use Rattle.sb_shared.proofs.feeds.FeedOfChanges.{does-so}
use Rattle.sb_shared.proofs.entered.Found.{part_here}
use Rattle.sb_shared.proofs.entered.HeldHere.{out_here}
use Rattle.sb_cascade.proofs.leavings.LeftTurns.{does_at, found_by, knew}
use Rattle.sb_shared.proofs.lives.Shelving.{raises_by}
use Rattle.sb_cascade.proofs.leavings.ToldWorks.{finishes_part_told}
use Rattle.sb_cascade.proofs.cascade.Cascade.finish_part.Goals as goal

pub absorb-requires-clause-lane : goal.absorb-requires-clause-lane
absorb-requires-clause-lane g c =
    let a : Setting = c.args.self.now.setting in
    let w : Hands = c.args.pass.now.seat.me.0.client in
    let k = c.args.claim in
    let x : SharedView = c.enter-guard.result.state in
    let same : about c.args.self.now.turns ≡ a = search rules in
    let f : IsFound a w k.node x = found_by a _ w k.node x same (rw c.node.ensures at c.enter-guard.ensures.finds) in
    let out : held_by w ≡ work_of k false ∷ [] = ap as_list c.requires.pass.1.0 in
    rw (c.lane-lane.ensures, c.epoch-epoch.ensures, c.number-number.ensures) (out_here a w k.node x f k false out refl)

pub absorb-requires-clause-takes : goal.absorb-requires-clause-takes
absorb-requires-clause-takes g c =
    let a : Setting = c.args.self.now.setting in
    let w : Hands = c.args.pass.now.seat.me.0.client in
    let k = c.args.claim in
    let x : SharedView = c.enter-guard.result.state in
    let same : about c.args.self.now.turns ≡ a = search rules in
    let f : IsFound a w k.node x = found_by a _ w k.node x same (rw c.node.ensures at c.enter-guard.ensures.finds) in
    let out : held_by w ≡ work_of k false ∷ [] = ap as_list c.requires.pass.1.0 in
    rw c.lane-lane.ensures (λ sane. (k.bundle.records, part_here a w k.node x f sane k out refl c.args.part c.requires.part))

pub leave-requires-clause-does : goal.leave-requires-clause-does
leave-requires-clause-does g c =
    let turn = rw c.node.ensures at c.enter-guard.ensures.turn in
    let r = c.enter-guard.result in
    let p = c.enter-guard.new.pass in
    let a : Setting = c.args.self.now.setting in
    let w : Hands = c.args.pass.now.seat.me.0.client in
    let k = c.args.claim in
    let x : SharedView = r.state in
    let y : SharedView = c.absorb.new.self in
    let same : about c.args.self.now.turns ≡ a = search rules in
    let f : IsFound a w k.node x = found_by a _ w k.node x same (rw c.node.ensures at c.enter-guard.ensures.finds) in
    let out : held_by w ≡ work_of k false ∷ [] = ap as_list c.requires.pass.1.0 in
    let at = out_here a w k.node x f k false out refl in
    let absorbs = rw (c.lane-lane.ensures, c.epoch-epoch.ensures, c.number-number.ensures) at c.in-Ok.ensures.absorbs in
    let sane : x.spent ≡ false = c.in-Ok.ensures.was in
    does_at a p.me.0.client w p.me.0.seen r.node k.node r.found.value x y (Finish c.of.result false) turn.0
    (knew c.args.pass.now.seat.me p.me _ _ _ _ turn.2.1) turn.1
    (does-so a w p.me.0.seen k.node x y (Finish c.of.result false) refl
    (finishes_part_told a w p.me.0.seen k.node x y c.of.result k c.of.ensures at.0 c.args.part refl c.requires.part sane
    (part_here a w k.node x f sane k out refl c.args.part c.requires.part) (absorbs at.0 at.1) out)
    (subst (λ (v : Claim). SetsLinks v.lane 0 (FinishesLinked v.bundle.epoch (link_left a k.node w)) x y) (sym c.of.ensures)
    (finish-stays a k.node w k.lane k.bundle.epoch x y (part_gathers (operator_of a k.node) k.lane k.bundle.records c.args.part c.requires.part)
    (absorb-sets k.lane k.bundle.epoch k.bundle.number at.0 c.args.part x y (absorbs at.0 at.1)))))

pub stop-requires-clause-rule : goal.stop-requires-clause-rule
stop-requires-clause-rule g c = raises_by _ _ 3 _ (λ low. absurd (omega (arith, low)))
