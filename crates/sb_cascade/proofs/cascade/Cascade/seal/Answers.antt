use Rattle.std.proofs.Common.{rules, ◌≡◌, ◌≤◌, true, Some, refl, sym, ap, ◌∙◌, subst}
use Rattle.sb_hand.specs.base.pipeline.Shapes.{source}
use Rattle.sb_shared.specs.turn.Passes.{about}
use Rattle.sb_shared.specs.declared.telling.Change.TheVariants.{Seal}
use Rattle.sb_shared.specs.declared.telling.Hands.{Hands}
use Rattle.sb_shared.specs.declared.telling.Setting.{Setting}
use Rattle.sb_shared.specs.Found.{IsFound}
use Rattle.sb_shared.specs.SharedNodes.{SharedView}
use Rattle.sb_shared.specs.Views.{as_list}
use Rattle.sb_shared.proofs.feeds.FeedOfChanges.{feeds-mark}
use Rattle.sb_shared.proofs.entered.FoundLanes.{source_lane}
use Rattle.sb_shared.proofs.leavings.FreshEvents.{seals}
use Rattle.sb_cascade.proofs.leavings.LeftTurns.{does_at, found_by, knew}
use Rattle.sb_shared.proofs.links.LinksOwed.{seal-sets}
use Rattle.sb_cascade.proofs.leavings.ToldFeeds.{floor_fed}
use Rattle.sb_cascade.proofs.cascade.Cascade.seal.Goals as goal

pub seal-requires : goal.seal-requires
seal-requires g c =
    let a : Setting = c.args.self.now.setting in
    let w : Hands = c.args.pass.now.seat.me.0.client in
    let d = c.in-Some.down in
    let x : SharedView = c.enter-guard.result.state in
    let same : about c.args.self.now.turns ≡ a = search rules in
    let f : IsFound a w d.node x = found_by a _ w d.node x same c.enter-guard.ensures.finds in
    let from : source a.plan c.args.stream ≡ Some d = sym c.source.ensures.value ∙ c.in-Some.is in
    record { lane = source_lane a w d.node x f c.args.stream d from refl }

pub leave-requires-clause-does : goal.leave-requires-clause-does
leave-requires-clause-does g c =
    let turn = c.enter-guard.ensures.turn in
    let r = c.enter-guard.result in
    let p = c.enter-guard.new.pass in
    let a : Setting = c.args.self.now.setting in
    let w : Hands = c.args.pass.now.seat.me.0.client in
    let s = c.args.stream in
    let mark = c.args.mark in
    let d = c.in-Some.down in
    let x : SharedView = r.state in
    let y : SharedView = c.seal.new.self in
    let same : about c.args.self.now.turns ≡ a = search rules in
    let f : IsFound a w d.node x = found_by a _ w d.node x same c.enter-guard.ensures.finds in
    let from : source a.plan s ≡ Some d = sym c.source.ensures.value ∙ c.in-Some.is in
    let on : w.feed.on ≡ true = c.requires.pass.1.1 in
    let at = source_lane a w d.node x f s d from refl in
    does_at a p.me.0.client w p.me.0.seen r.node d.node r.found.value x y (Seal s mark) turn.0
    (knew c.args.pass.now.seat.me p.me _ _ _ _ turn.2.1) turn.1 (record {
      feeds = feeds-mark w d.node on s mark;
      part = seals a w p.me.0.seen d.node x y s mark d at.0 _ from refl c.requires.mark.bound
          (subst (λ floor. floor ≤ mark) (sym (floor_fed a w d.node x f on s d from refl at.0 at.1)) c.requires.mark.rises)
          (c.in-Ok.ensures.seals at.0 at.1) (ap as_list c.requires.pass.2.held);
      links = record { lane = d.lane; place_is = from; sets = seal-sets d.lane mark at.0 _ x y (c.in-Ok.ensures.seals at.0 at.1) };
    })
