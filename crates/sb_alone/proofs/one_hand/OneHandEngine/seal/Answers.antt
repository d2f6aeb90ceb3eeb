use Rattle.sb_feeds.specs.one_feed.Feeds.{with_mark}
use Rattle.sb_alone.proofs.Coming.{may-seal}
use Rattle.sb_alone.proofs.Standing.{whole-sealed}
use Rattle.sb_alone.proofs.one_hand.OneHandEngine.seal.Goals as goal

pub seal-requires : goal.seal-requires
seal-requires c = λ unspent. may-seal c.args.self.now.hand c.requires.may.0 c.requires.may.1 c.requires.may.2.rested.whole c.args.stream c.args.mark c.requires.may.3

pub work_off-requires : goal.work_off-requires
work_off-requires c =
    let may = c.requires.may in
    let came = c.in-Ok.ensures in
    record {
      whole = (
        with_mark c.args.stream c.args.mark may.0,
        may.1,
        whole-sealed c.args.self.now.hand c.seal.new.self c.args.stream c.args.mark may.0 may.1 came.seals came.settings came.rest may.3.most may.2.rested.whole,
      );
    }

pub returns-in-Ok-clause-gives : goal.returns-in-Ok-clause-gives
returns-in-Ok-clause-gives c = λ f rows h may.
    let came = c.in-Ok.ensures in
    c.work_off.ensures.rests (with_mark c.args.stream c.args.mark f) rows
    (whole-sealed c.args.self.now.hand c.seal.new.self c.args.stream c.args.mark f rows came.seals came.settings came.rest may.most h.rested.whole)
