use Rattle.sb_feeds.specs.one_feed.Feeds.{with_bundle}
use Rattle.sb_alone.proofs.Coming.{may-arrive, never-full}
use Rattle.sb_alone.proofs.Standing.{whole-arrived}
use Rattle.sb_alone.proofs.one_hand.OneHandEngine.arrive.Goals as goal

pub arrive-requires : goal.arrive-requires
arrive-requires c = λ unspent. may-arrive c.args.self.now.hand c.requires.may.0 c.requires.may.1 c.requires.may.2.rested.whole c.args.stream c.args.bundle c.requires.may.3

pub work_off-requires : goal.work_off-requires
work_off-requires c =
    let may = c.requires.may in
    let came = c.in-Ok.ensures in
    record {
      whole = (
        with_bundle c.args.stream c.args.bundle may.0,
        may.1,
        whole-arrived c.args.self.now.hand c.arrive.new.self c.args.stream c.args.bundle may.0 may.1 came.arrives came.settings came.rest may.3.epoch may.2.rested.whole,
      );
    }

pub unreachable-requires : goal.unreachable-requires
unreachable-requires c =
    let may = c.requires.may in
    let back = rw c.in-Err-Full.field-0-is at c.in-Err-Full.ensures.back in
    never-full c.args.self.now.hand may.0 may.1 may.2.rested c.args.stream back.1 back.2

pub returns-in-Ok-clause-gives : goal.returns-in-Ok-clause-gives
returns-in-Ok-clause-gives c = λ f rows h may.
    let came = c.in-Ok.ensures in
    c.work_off.ensures.rests (with_bundle c.args.stream c.args.bundle f) rows
    (whole-arrived c.args.self.now.hand c.arrive.new.self c.args.stream c.args.bundle f rows came.arrives came.settings came.rest may.epoch h.rested.whole)
