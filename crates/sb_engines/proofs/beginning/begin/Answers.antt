use Rattle.std.proofs.Common.{[], subst, sym}
use Rattle.sb_alone.specs.feeds.one_feed.Feeds.{nothing_fed}
use Rattle.sb_worker.specs.Helping.{IsFirst}
use Rattle.sb_engines.proofs.Returned.{new-fed}
use Rattle.sb_engines.proofs.beginning.begin.Goals as goal

pub returns : goal.returns
returns c =
    let cascade = c.in_ok-cascade.cascade in
    let pass = c.in_ok-cascade.ensures.pass in
    let helpers = c.in_ok-helpers.ensures in
    let setting = c.in_ok-cascade.ensures.cascade c.args.plan c.args.sizes.bundle c.args.sizes.pending c.args.sizes.keeps_diaries c.in_ok-hand.ensures in
    record {
      setting = setting;
      first = subst (λ n. IsFirst cascade n c.split_all.new.pass) (sym helpers.helpers.1) helpers.pass;
      helpers_are = helpers.helpers.0;
      begins = helpers.fed nothing_fed [] (new-fed c.args.plan c.transforms.ensures.sound c.args.sizes c.requires.sizes c.in_ok-hand.hand c.in_ok-hand.ensures cascade c.in_ok-cascade.feeder setting pass.0 pass.1 pass.2 pass.3);
    }
