use Rattle.std.proofs.Common.{rules, ◌≡◌, true, ap, subst, sym}
use Rattle.sb_shared.specs.turn.Passes.{about}
use Rattle.sb_shared.specs.declared.telling.Change.TheVariants.{Drain}
use Rattle.sb_shared.specs.declared.telling.Hands.{Hands}
use Rattle.sb_shared.specs.declared.telling.Setting.{Setting}
use Rattle.sb_shared.specs.Found.{IsDrained, IsFound}
use Rattle.sb_shared.specs.SharedNodes.{SharedView}
use Rattle.sb_shared.specs.Views.{with_drained}
use Rattle.sb_shared.proofs.leavings.Acts.{drains}
use Rattle.sb_shared.proofs.feeds.Drained.{all-drained}
use Rattle.sb_shared.proofs.feeds.FeedOfChanges.{feeds-drained}
use Rattle.sb_cascade.proofs.leavings.LeftTurns.{does_at, found_by, knew}
use Rattle.sb_shared.proofs.links.LinksOwed.{own-stays}
use Rattle.sb_cascade.proofs.cascade.Cascade.drain.Goals as goal

pub leave-requires-clause-does : goal.leave-requires-clause-does
leave-requires-clause-does g c =
    let turn = c.enter-guard.ensures.turn in
    let r = c.enter-guard.result in
    let p = c.enter-guard.new.pass in
    let a : Setting = c.args.self.now.setting in
    let w : Hands = c.args.pass.now.seat.me.0.client in
    let k = c.transforms-sink.result in
    let x : SharedView = r.state in
    let y : SharedView = c.drain.new.self in
    let on : w.feed.on ≡ true = c.requires.pass.1.1 in
    let told : c.of-told.result.value ≡ x.tray = search rules in
    does_at a p.me.0.client w p.me.0.seen r.node k r.found.value x y (Drain c.of-told.result) turn.0
    (knew c.args.pass.now.seat.me p.me _ _ _ _ turn.2.1) turn.1 (record {
      feeds = feeds-drained w k on c.of-told.result;
      part = drains a w p.me.0.seen k x y c.of-told.result c.transforms-sink.ensures.value told c.drain.ensures.rest;
      links = own-stays x y (ap (λ (z : SharedView). z.own) c.drain.ensures.rest);
    })

pub returns-clause-all : goal.returns-clause-all
returns-clause-all g c =
    let a : Setting = c.args.self.now.setting in
    let w : Hands = c.args.pass.now.seat.me.0.client in
    let k = c.transforms-sink.result in
    let x : SharedView = c.enter-guard.result.state in
    let rows = c.drain.result.items in
    let same : about c.args.self.now.turns ≡ a = search rules in
    let f : IsFound a w k x = found_by a _ w k x same c.enter-guard.ensures.finds in
    let told : rows ≡ x.tray = search rules in
    let on : w.feed.on ≡ true = c.requires.pass.1.1 in
    let feed : c.leave.new.pass.me.0.client.feed ≡ with_drained rows w.feed = search rules in
    subst (IsDrained a) (sym feed) (all-drained a w k x rows on c.transforms-sink.ensures.value told f)
