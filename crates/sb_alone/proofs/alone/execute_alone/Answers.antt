use Rattle.std.proofs.Common.{[]}
use Rattle.sb_feeds.specs.one_feed.Feeds.{nothing_fed}
use Rattle.sb_alone.proofs.Sharing.{feeds-rested}
use Rattle.sb_alone.proofs.SoFar.{rested_so_far}
use Rattle.sb_alone.proofs.Starting.{ends, ends_none, input-cause, output-cause, output-none, rested-new}
use Rattle.sb_alone.proofs.alone.execute_alone.Goals as goal

pub returns-in-Err-clause-ends : goal.returns-in-Err-clause-ends
returns-in-Err-clause-ends g c =
    let laws = g.met.R.RowOut g.world.𝓛 g.world.𝓜 g.world.𝓡 ((λ s x. x), (λ x. x), (λ x. x), λ x. x) in
    ends_none c.args.plan c.args.sizes (g.S.Source.left c.args.input.now) g.R.RowOut.after g.R.RowOut.part laws.after_none laws.part_of_all c.args.out.now [] c.args.dropped.now.items

pub returns-in-Err-clause-output : goal.returns-in-Err-clause-output
returns-in-Err-clause-output g c = output-none (g.R.RowOut.row_state c.args.out.now)

pub feed-fed-requires-clause-begins : goal.feed-fed-requires-clause-begins
feed-fed-requires-clause-begins g c κs within =
    let rested = rested-new c.args.plan c.transforms.ensures.sound c.args.sizes c.in-Ok.hand c.requires.sizes c.in-Ok.ensures in
    record { rested = rested; so_far = rested_so_far c.in-Ok.hand nothing_fed [] rested }

pub returns-clause-ends : goal.returns-clause-ends
returns-clause-ends g c =
    rw c.end_of.ensures
    (ends c.args.plan c.args.sizes c.in-Ok.hand c.feed-fed.new.engine.hand (g.S.Source.left c.args.input.now) (g.S.Source.left c.feed-fed.new.input) g.R.RowOut.after g.R.RowOut.part c.args.out.now c.feed-fed.new.out _ _ c.args.dropped.now.items c.feed-fed.new.dropped.items c.feed-fed.result
    c.in-Ok.ensures c.feed-fed.ensures.same
    (feeds-rested c.in-Ok.hand.plan c.args.sizes.bundle _ _ c.feed-fed.new.engine.hand g.R.RowOut.after g.R.RowOut.part c.args.out.now c.feed-fed.new.out _ _ _ _ c.feed-fed.result c.feed-fed.ensures.feeds))

pub returns-clause-input : goal.returns-clause-input
returns-clause-input g c = rw c.end_of.ensures (input-cause (g.S.Source.faults c.args.input.now) (g.S.Source.faults c.feed-fed.new.input) c.feed-fed.new.engine.hand c.feed-fed.result c.feed-fed.ensures.source)

pub returns-clause-output : goal.returns-clause-output
returns-clause-output g c = rw c.end_of.ensures (output-cause (g.R.RowOut.row_state c.args.out.now) (g.R.RowOut.row_state c.feed-fed.new.out) c.feed-fed.new.engine.hand c.feed-fed.result c.feed-fed.ensures.cause)
