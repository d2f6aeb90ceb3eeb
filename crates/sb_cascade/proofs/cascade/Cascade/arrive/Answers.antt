use Rattle.std.proofs.Common.{rules, ◌≡◌, ◌+◌, true, Some, refl, sym, ap, ◌∙◌, subst}
use Rattle.sb_hand.specs.base.pipeline.Shapes.{source}
use Rattle.sb_shared.specs.turn.Passes.{about}
use Rattle.sb_hand.specs.lane.declared.answers.ArriveStop.{ArriveStop}
use Rattle.sb_hand.specs.node.Coming.{IsBackFrom}
use Rattle.sb_shared.specs.declared.telling.Change.TheVariants.{Arrive, Full, Nothing}
use Rattle.sb_shared.specs.declared.telling.Hands.{Hands}
use Rattle.sb_shared.specs.declared.telling.Setting.{Setting}
use Rattle.sb_shared.specs.Found.{IsFound}
use Rattle.sb_shared.specs.Leavings.{HasRoom, IsFull}
use Rattle.sb_shared.specs.SharedNodes.{SharedView}
use Rattle.sb_cascade.specs.Told.{Is}
use Rattle.sb_shared.specs.Views.{as_list}
use Rattle.sb_shared.proofs.feeds.FeedOfChanges.{feeds-bundle}
use Rattle.sb_shared.proofs.entered.Found.{bundles_fed}
use Rattle.sb_shared.proofs.entered.FoundLanes.{source_lane}
use Rattle.sb_cascade.proofs.leavings.LeftTurns.{does_at, found_by, knew, left_by}
use Rattle.sb_shared.proofs.links.LinksOwed.{arrive-sets}
use Rattle.sb_cascade.proofs.leavings.ToldFeeds.{arrives_told, epoch_fed, floor_fed}
use Rattle.sb_cascade.proofs.cascade.Cascade.arrive.Goals as goal

pub arrive-requires : goal.arrive-requires
arrive-requires g c =
    let a : Setting = c.args.self.now.setting in
    let w : Hands = c.args.pass.now.seat.me.0.client in
    let d = c.in-Some.down in
    let x : SharedView = c.enter-guard.result.state in
    let same : about c.args.self.now.turns ≡ a = search rules in
    let f : IsFound a w d.node x = found_by a _ w d.node x same c.enter-guard.ensures.finds in
    let from : source a.plan c.args.stream ≡ Some d = sym c.source.ensures.value ∙ c.in-Some.is in
    record { lane = source_lane a w d.node x f c.args.stream d from refl }

pub leave-requires-clause-does : goal.leave-requires-clause-does
leave-requires-clause-does g c =
    let turn = c.enter-guard.ensures.turn in
    let r = c.enter-guard.result in
    let p = c.enter-guard.new.pass in
    let a : Setting = c.args.self.now.setting in
    let w : Hands = c.args.pass.now.seat.me.0.client in
    let s = c.args.stream in
    let b = c.args.bundle in
    let may = c.requires.bundle in
    let d = c.in-Some.down in
    let x : SharedView = r.state in
    let y : SharedView = c.arrive.new.self in
    let same : about c.args.self.now.turns ≡ a = search rules in
    let f : IsFound a w d.node x = found_by a _ w d.node x same c.enter-guard.ensures.finds in
    let from : source a.plan s ≡ Some d = sym c.source.ensures.value ∙ c.in-Some.is in
    let on : w.feed.on ≡ true = c.requires.pass.1.1 in
    let at = source_lane a w d.node x f s d from refl in
    let came = c.in-Ok.ensures.arrives at.0 at.1 in
    does_at a p.me.0.client w p.me.0.seen r.node d.node r.found.value x y (Arrive s c.of-told.result) turn.0
    (knew c.args.pass.now.seat.me p.me _ _ _ _ turn.2.1) turn.1 (record {
      feeds = feeds-bundle w d.node on s c.of-told.result;
      part = arrives_told a w p.me.0.seen d.node x y s c.of-told.result b c.of-told.ensures d at.0 _ _ from refl (c.in-Ok.ensures.number at.0 at.1)
          (may.epoch ∙ sym (epoch_fed a w d.node x f on s d from refl at.0 at.1)) (may.floor ∙ sym (floor_fed a w d.node x f on s d from refl at.0 at.1))
          may.some may.most may.times came.0 came.1 (ap as_list c.requires.pass.2.held);
      links = record { lane = d.lane; place_is = from; sets = arrive-sets d.lane b.epoch at.0 _ _ x y came.1 refl (may.epoch ∙ sym (epoch_fed a w d.node x f on s d from refl at.0 at.1)) };
    })

pub leave-requires-clause-looks : goal.leave-requires-clause-looks
leave-requires-clause-looks g c =
    let turn = c.enter-guard.ensures.turn in
    let a : Setting = c.args.self.now.setting in
    let w : Hands = c.args.pass.now.seat.me.0.client in
    let d = c.in-Some.down in
    let x : SharedView = c.enter-guard.result.state in
    let same : about c.args.self.now.turns ≡ a = search rules in
    let f : IsFound a w d.node x = found_by a _ w d.node x same c.enter-guard.ensures.finds in
    let from : source a.plan c.args.stream ≡ Some d = sym c.source.ensures.value ∙ c.in-Some.is in
    let at = source_lane a w d.node x f c.args.stream d from refl in
    (d, from, sym turn.0, subst (λ (z : SharedView). HasRoom d.lane z) (sym turn.1) (at.0, at.1, c.in-Ok.ensures.fewer at.0 at.1))

pub leave-requires-in-Err-Full-clause-looks : goal.leave-requires-in-Err-Full-clause-looks
leave-requires-in-Err-Full-clause-looks g c =
    let turn = c.enter-guard.ensures.turn in
    let a : Setting = c.args.self.now.setting in
    let w : Hands = c.args.pass.now.seat.me.0.client in
    let d = c.in-Some.down in
    let x : SharedView = c.enter-guard.result.state in
    let same : about c.args.self.now.turns ≡ a = search rules in
    let f : IsFound a w d.node x = found_by a _ w d.node x same c.enter-guard.ensures.finds in
    let from : source a.plan c.args.stream ≡ Some d = sym c.source.ensures.value ∙ c.in-Some.is in
    let at = source_lane a w d.node x f c.args.stream d from refl in
    let back = subst (λ (e : ArriveStop). IsBackFrom at.0 c.args.bundle e) c.in-Err-Full.field-0-is (c.in-Err-Full.ensures.back at.0 at.1) in
    subst (λ (z : SharedView). IsFull d.lane z) (sym turn.1) (at.0, at.1, back.1)

pub returns-in-Err-Full-clause-back : goal.returns-in-Err-Full-clause-back
returns-in-Err-Full-clause-back g c =
    let turn = c.enter-guard.ensures.turn in
    let a : Setting = c.args.self.now.setting in
    let w : Hands = c.args.pass.now.seat.me.0.client in
    let d = c.in-Some.down in
    let x : SharedView = c.enter-guard.result.state in
    let same : about c.args.self.now.turns ≡ a = search rules in
    let f : IsFound a w d.node x = found_by a _ w d.node x same c.enter-guard.ensures.finds in
    let from : source a.plan c.args.stream ≡ Some d = sym c.source.ensures.value ∙ c.in-Some.is in
    let at = source_lane a w d.node x f c.args.stream d from refl in
    let back = subst (λ (e : ArriveStop). IsBackFrom at.0 c.args.bundle e) c.in-Err-Full.field-0-is (c.in-Err-Full.ensures.back at.0 at.1) in (
      c.in-Err-Full.bundle-is ∙ back.0,
      (d, from, left_by d.node (Is (Full d.lane)) c.args.pass.now _ c.enter-guard.new.pass.me c.enter-guard.result.node turn.2.0 _ _ (Full d.lane) _ _ _ turn.0 turn.2.1 c.leave-in-Err-Full.ensures.turn refl),
    )

pub returns-clause-back : goal.returns-clause-back
returns-clause-back g c =
    let turn = c.enter-guard.ensures.turn in
    let a : Setting = c.args.self.now.setting in
    let w : Hands = c.args.pass.now.seat.me.0.client in
    let d = c.in-Some.down in
    let x : SharedView = c.enter-guard.result.state in
    let same : about c.args.self.now.turns ≡ a = search rules in
    let f : IsFound a w d.node x = found_by a _ w d.node x same c.enter-guard.ensures.finds in
    let from : source a.plan c.args.stream ≡ Some d = sym c.source.ensures.value ∙ c.in-Some.is in
    let at = source_lane a w d.node x f c.args.stream d from refl in (
      c.in-Err-Memory.bundle-is ∙ subst (λ (e : ArriveStop). IsBackFrom at.0 c.args.bundle e) c.in-Err-Memory.field-0-is (c.in-Err-Memory.ensures.back at.0 at.1),
      (d, from, left_by d.node (Is Nothing) c.args.pass.now _ c.enter-guard.new.pass.me c.enter-guard.result.node turn.2.0 _ _ Nothing _ _ _ turn.0 turn.2.1 c.leave-in-Err-Memory.ensures.turn refl),
    )

pub returns-in-Ok-clause-number : goal.returns-in-Ok-clause-number
returns-in-Ok-clause-number g c =
    let a : Setting = c.args.self.now.setting in
    let w : Hands = c.args.pass.now.seat.me.0.client in
    let d = c.in-Some.down in
    let x : SharedView = c.enter-guard.result.state in
    let same : about c.args.self.now.turns ≡ a = search rules in
    let f : IsFound a w d.node x = found_by a _ w d.node x same c.enter-guard.ensures.finds in
    let from : source a.plan c.args.stream ≡ Some d = sym c.source.ensures.value ∙ c.in-Some.is in
    let at = source_lane a w d.node x f c.args.stream d from refl in
    c.in-Ok.ensures.number at.0 at.1 ∙ ap (λ n. n + 1) (bundles_fed a w d.node x f c.requires.pass.1.1 c.args.stream d from refl at.0 at.1)
