use Rattle.sb_hand.proofs.FeedLinks.{sealed-links, stay-none}
use Rattle.sb_hand.proofs.Feeds.{sealed}
use Rattle.sb_hand.proofs.feeding.seal.Goals as goal

pub returns-in-Some : goal.returns-in-Some
returns-in-Some c =
    let a = sealed c.args.plan.now c.requires.plan c.args.size c.args.nodes.now.items c.seal_in.new.nodes.items c.args.stream c.in-Some.place c.in-Some.ensures.value _ _ c.args.mark c.requires.may c.seal_in.result c.seal_in.ensures.ok c.seal_in.ensures.err in
    let f = sealed-links c.args.plan.now c.requires.plan c.args.size c.args.nodes.now.items c.seal_in.new.nodes.items c.args.stream c.in-Some.place c.in-Some.ensures.value _ _ c.args.mark c.requires.may.into c.seal_in.result c.seal_in.ensures.ok c.seal_in.ensures.err c.seal_in.ensures.links c.seal_in.ensures.stays in
    record { seals = a.seals; settings = a.settings; same = a.same; can = a.can; links = f.links; searches = f.searches }

pub returns-in-None-clause-searches : goal.returns-in-None-clause-searches
returns-in-None-clause-searches c = stay-none c.args.nodes.now.items
