use Rattle.std.proofs.Common.{rules, ◌≡◌, ◌<◌, false, List, [], ◌∷◌, length, Some, refl, ap, ◌∙◌, sym, subst}
use Rattle.sb_hand.specs.base.records.declared.item.Record.{Record}
use Rattle.sb_hand.specs.core.containers.Choices.{is_empty}
use Rattle.sb_hand.specs.core.Closings.{delivery}
use Rattle.sb_hand.specs.core.Events.{below}
use Rattle.sb_hand.proofs.core.places.Carried.{below-down}
use Rattle.sb_shared.specs.turn.Passes.{about}
use Rattle.sb_hand.specs.work.declared.claim.Claim.{Claim}
use Rattle.sb_shared.specs.declared.telling.Hands.{Hands}
use Rattle.sb_shared.specs.declared.telling.Setting.{Setting}
use Rattle.sb_shared.specs.declared.telling.Change.TheVariants.{Deliver}
use Rattle.sb_shared.specs.Doings.{work_of}
use Rattle.sb_shared.specs.Found.{IsFound}
use Rattle.sb_shared.specs.Shown.{operator_of}
use Rattle.sb_shared.specs.Linked.{SetsLinksAt}
use Rattle.sb_shared.specs.SharedNodes.{PutsAt, SharedView}
use Rattle.sb_shared.specs.Views.{held_by, as_list}
use Rattle.sb_shared.proofs.feeds.FeedOfChanges.{does-so}
use Rattle.sb_shared.proofs.entered.FoundLanes.{below_lane}
use Rattle.sb_shared.proofs.entered.LinkHere.{work-link}
use Rattle.sb_shared.proofs.links.LinksOwed.{put-sets}
use Rattle.sb_cascade.proofs.leavings.LeftTurns.{does_at, found_by, knew}
use Rattle.sb_shared.proofs.entered.OrderHere.{order_here, work_order}
use Rattle.sb_cascade.proofs.leavings.ToldWorks.{delivers_told, not_empty}
use Rattle.sb_cascade.proofs.cascade.Cascade.deliver.Goals as goal

pub put-requires-clause-lane : goal.put-requires-clause-lane
put-requires-clause-lane g c =
    let a : Setting = c.args.self.now.setting in
    let w : Hands = c.args.pass.now.seat.me.0.client in
    let d = c.down-down.result in
    let x : SharedView = c.enter-guard.result.state in
    let same : about c.args.self.now.turns ≡ a = search rules in
    let f : IsFound a w d.node x = found_by a _ w d.node x same c.enter-guard.ensures.finds in
    below_lane a w d.node x f c.args.claim.now.node d (below-down a.plan c.args.claim.now.node d (rw c.node-node.ensures at c.down-down.ensures.down)) refl

pub put-requires-clause-order : goal.put-requires-clause-order
put-requires-clause-order g c =
    let a : Setting = c.args.self.now.setting in
    let w : Hands = c.args.pass.now.seat.me.0.client in
    let d = c.down-down.result in
    let x : SharedView = c.enter-guard.result.state in
    let same : about c.args.self.now.turns ≡ a = search rules in
    let f : IsFound a w d.node x = found_by a _ w d.node x same c.enter-guard.ensures.finds in
    order_here a w d.node x f d.lane

pub put-requires-clause-later : goal.put-requires-clause-later
put-requires-clause-later g c =
    let a : Setting = c.args.self.now.setting in
    let w : Hands = c.args.pass.now.seat.me.0.client in
    let k = c.args.claim.now in
    let d = c.down-down.result in
    let x : SharedView = c.enter-guard.result.state in
    let same : about c.args.self.now.turns ≡ a = search rules in
    let f : IsFound a w d.node x = found_by a _ w d.node x same c.enter-guard.ensures.finds in
    let out : held_by w ≡ work_of k false ∷ [] = ap as_list c.requires.pass.1.0 in
    let some : is_empty (delivery (operator_of a k.node) k.bundle.records) ≡ false =
    ap is_empty (sym c.requires.gives.given_is) ∙ not_empty c.args.records.items c.requires.gives.some in
    rw (c.epoch-epoch.ensures, c.floor-floor.ensures) (work_order a w d.node x f k out d (below-down a.plan k.node d (rw c.node-node.ensures at c.down-down.ensures.down)) refl some)

pub leave-requires-clause-does : goal.leave-requires-clause-does
leave-requires-clause-does g c =
    let turn = c.enter-guard.ensures.turn in
    let r = c.enter-guard.result in
    let p = c.enter-guard.new.pass in
    let a : Setting = c.args.self.now.setting in
    let w : Hands = c.args.pass.now.seat.me.0.client in
    let k = c.args.claim.now in
    let d = c.down-down.result in
    let x : SharedView = r.state in
    let y : SharedView = c.put.new.self in
    let same : about c.args.self.now.turns ≡ a = search rules in
    let f : IsFound a w d.node x = found_by a _ w d.node x same c.enter-guard.ensures.finds in
    let under : below a.plan k.node ≡ Some d = below-down a.plan k.node d (rw c.node-node.ensures at c.down-down.ensures.down) in
    let at = below_lane a w d.node x f k.node d under refl in
    let puts = rw (c.epoch-epoch.ensures, c.floor-floor.ensures) at c.in-Ok.ensures.puts in
    let put = puts at.0 at.1 in
    let out : held_by w ≡ work_of k false ∷ [] = ap as_list c.requires.pass.1.0 in
    let same_records : c.new.result ≡ c.args.records.items = c.new.ensures in
    does_at a p.me.0.client w p.me.0.seen r.node d.node r.found.value x y (Deliver c.of-told.result c.in-Ok.place) turn.0
    (knew c.args.pass.now.seat.me p.me _ _ _ _ turn.2.1) turn.1
    (does-so a w p.me.0.seen d.node x y (Deliver c.of-told.result c.in-Ok.place) refl
    (delivers_told a w p.me.0.seen d.node x y c.of-told.result k c.of-told.ensures c.in-Ok.place d c.new.result at.0 _ under refl
    (same_records ∙ c.requires.gives.given_is) (subst (λ (l : List Record). 0 < length l) (sym same_records) c.requires.gives.some) put.0 put.1 out)
    (subst (λ (v : Claim). SetsLinksAt (below a.plan v.node) d.node 0 (PutsAt v.bundle.epoch c.in-Ok.place) x y) (sym c.of-told.ensures)
    (record { lane = d.lane; place_is = under; sets = put-sets d.lane k.bundle.epoch k.bundle.floor c.in-Ok.place c.new.result at.0 _ x y put.1 })))

pub put-requires-clause-here : goal.put-requires-clause-here
put-requires-clause-here g c =
    let a : Setting = c.args.self.now.setting in
    let w : Hands = c.args.pass.now.seat.me.0.client in
    let k = c.args.claim.now in
    let d = c.down-down.result in
    let x : SharedView = c.enter-guard.result.state in
    let same : about c.args.self.now.turns ≡ a = search rules in
    let f : IsFound a w d.node x = found_by a _ w d.node x same c.enter-guard.ensures.finds in
    let out : held_by w ≡ work_of k false ∷ [] = ap as_list c.requires.pass.1.0 in
    rw c.epoch-epoch.ensures (work-link a w d x f k false out (below-down a.plan k.node d (rw c.node-node.ensures at c.down-down.ensures.down)) c.requires.gives.pardo c.args.pass.now.link (sym c.requires.pass.0.knows.link))
