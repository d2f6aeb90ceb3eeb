use Rattle.std.proofs.Common.{rules, ◌≡◌, Bool, Option, ℕ, [], ◌∷◌, Some, refl, sym, ap, subst, ◌∙◌}
use Rattle.sb_hand.specs.diary.declared.event.DiaryEvent.TheVariants as line
use Rattle.sb_hand.specs.lane.LaneView.{lane_of}
use Rattle.sb_hand.specs.lane.Placed.{conts_of}
use Rattle.sb_hand.specs.lane.Taking.{finish_first}
use Rattle.sb_hand.specs.node.Changes.{Turns}
use Rattle.std.specs.Prelude.{is_some}
use Rattle.sb_shared.specs.turn.Passes.{about}
use Rattle.sb_hand.specs.work.declared.claim.Claim.{Claim}
use Rattle.sb_shared.specs.declared.telling.Change.TheVariants.{Finish}
use Rattle.sb_shared.specs.declared.telling.Hands.{Hands}
use Rattle.sb_shared.specs.declared.telling.Setting.{Setting}
use Rattle.sb_cascade.specs.Calls.{given_count}
use Rattle.sb_shared.specs.Doings.{work_of}
use Rattle.sb_shared.specs.Found.{IsFound}
use Rattle.sb_shared.specs.Linked.{SetsLinks, link_left}
use Rattle.sb_shared.specs.SharedNodes.{ChangesOwn, FinishesLinked, SharedView}
use Rattle.sb_shared.specs.Views.{held_by, as_list}
use Rattle.sb_shared.proofs.feeds.FeedOfChanges.{does-so}
use Rattle.sb_shared.proofs.entered.HeldHere.{lane_is_first, out_here}
use Rattle.sb_cascade.proofs.leavings.LeftTurns.{does_at, found_by, knew, left_by}
use Rattle.sb_shared.proofs.links.LinksOwed.{finish-sets}
use Rattle.sb_cascade.proofs.leavings.ToldWorks.{anyway, finishes_given_told, counts_given}
use Rattle.sb_cascade.specs.Told.{IsFinish}
use Rattle.sb_cascade.proofs.cascade.Cascade.finish_given.Goals as goal

pub finish-requires-clause-lane : goal.finish-requires-clause-lane
finish-requires-clause-lane g c =
    let a : Setting = c.args.self.now.setting in
    let w : Hands = c.args.pass.now.seat.me.0.client in
    let k = c.args.claim in
    let x : SharedView = c.enter-guard.result.state in
    let same : about c.args.self.now.turns ≡ a = search rules in
    let f : IsFound a w k.node x = found_by a _ w k.node x same (rw c.node.ensures at c.enter-guard.ensures.finds) in
    let delivered : Bool = c.requires.pass.1.0 in
    let out : held_by w ≡ work_of k delivered ∷ [] = ap as_list c.requires.pass.1.1.0 in
    rw (c.lane-lane.ensures, c.epoch-epoch.ensures, c.number-number.ensures) (out_here a w k.node x f k delivered out refl)

pub finish-requires-clause-linked : goal.finish-requires-clause-linked
finish-requires-clause-linked g c =
    let a : Setting = c.args.self.now.setting in
    let w : Hands = c.args.pass.now.seat.me.0.client in
    let k = c.args.claim in
    let x : SharedView = c.enter-guard.result.state in
    let same : about c.args.self.now.turns ≡ a = search rules in
    let f : IsFound a w k.node x = found_by a _ w k.node x same (rw c.node.ensures at c.enter-guard.ensures.finds) in
    let delivered : Bool = c.requires.pass.1.0 in
    let out : held_by w ≡ work_of k delivered ∷ [] = ap as_list c.requires.pass.1.1.0 in
    let at = out_here a w k.node x f k delivered out refl in
    rw c.lane-lane.ensures (anyway c.args.pass.now.link (lane_is_first a w k.node x f c.requires.pass.1.2.pardo k.lane at.0 at.1))

pub leave-requires-clause-does : goal.leave-requires-clause-does
leave-requires-clause-does g c =
    let turn = rw c.node.ensures at c.enter-guard.ensures.turn in
    let r = c.enter-guard.result in
    let p = c.enter-guard.new.pass in
    let a : Setting = c.args.self.now.setting in
    let w : Hands = c.args.pass.now.seat.me.0.client in
    let k = c.args.claim in
    let x : SharedView = r.state in
    let y : SharedView = c.finish.new.self in
    let same : about c.args.self.now.turns ≡ a = search rules in
    let f : IsFound a w k.node x = found_by a _ w k.node x same (rw c.node.ensures at c.enter-guard.ensures.finds) in
    let delivered : Bool = c.requires.pass.1.0 in
    let out : held_by w ≡ work_of k delivered ∷ [] = ap as_list c.requires.pass.1.1.0 in
    let at = out_here a w k.node x f k delivered out refl in
    let finishes = rw (c.lane-lane.ensures, c.epoch-epoch.ensures, c.number-number.ensures) at c.finish.ensures in
    let given : Option ℕ = c.args.pass.now.delivered in
    let known : given ≡ given_count a (Some (work_of k delivered)) = c.requires.pass.0.knows.delivered ∙ ap (given_count a) c.requires.pass.1.1.0 in
    does_at a p.me.0.client w p.me.0.seen r.node k.node r.found.value x y (Finish c.of.result c.is_some.result) turn.0
    (knew c.args.pass.now.seat.me p.me _ _ _ _ turn.2.1) turn.1
    (does-so a w p.me.0.seen k.node x y (Finish c.of.result c.is_some.result) refl
    (finishes_given_told a w p.me.0.seen k.node x y c.of.result k c.of.ensures delivered c.is_some.result c.unwrap_or-length.result given at.0 _ refl c.requires.pass.1.2
    known c.unwrap_or-length.ensures c.is_some.ensures (finishes at.0 at.1) out)
    (subst (λ (v : Claim). SetsLinks v.lane 0 (FinishesLinked v.bundle.epoch (link_left a k.node w)) x y) (sym c.of.ensures)
    (finish-sets a k.node w k.lane k.bundle.epoch at.0 _ _ x y c.requires.pass.1.2.pardo
    (subst (λ link. ChangesOwn (Turns k.lane at.0 (record (lane_of at.0) { conts = finish_first k.bundle.epoch k.bundle.number (conts_of at.0.containers) }) (FinishesLinked k.bundle.epoch link) (line.Finish k.lane k.bundle.number c.unwrap_or-length.result)) x y)
    c.requires.pass.0.knows.link (finishes at.0 at.1)) refl)))

pub returns-clause-left : goal.returns-clause-left
returns-clause-left g c =
    let turn = rw c.node.ensures at c.enter-guard.ensures.turn in
    let r = c.enter-guard.result in
    let a : Setting = c.args.self.now.setting in
    let k = c.args.claim in
    let delivered : Bool = c.requires.pass.1.0 in
    let known : c.args.pass.now.delivered ≡ given_count a (Some (work_of k delivered)) = c.requires.pass.0.knows.delivered ∙ ap (given_count a) c.requires.pass.1.1.0 in
    let says : c.is_some.result ≡ delivered = c.is_some.ensures ∙ ap is_some known ∙ counts_given a k delivered in (
      delivered,
      c.requires.pass.1.1,
      left_by k.node (IsFinish k delivered) c.args.pass.now _ c.enter-guard.new.pass.me r.node turn.2.0 _ _ (Finish c.of.result c.is_some.result) _ _ _ turn.0 turn.2.1 c.leave.ensures.turn
          (c.of.result, ap (λ b. Finish c.of.result b) says, c.of.ensures),
    )
