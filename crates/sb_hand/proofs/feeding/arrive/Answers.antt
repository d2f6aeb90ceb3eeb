use Rattle.sb_hand.proofs.FeedLinks.{arrived-links, stay-none}
use Rattle.sb_hand.proofs.Feeds.{arrived}
use Rattle.sb_hand.proofs.feeding.arrive.Goals as goal

pub returns-in-Some : goal.returns-in-Some
returns-in-Some c =
    let a = arrived c.args.plan.now c.requires.plan c.args.size c.args.nodes.now.items c.arrive_in.new.nodes.items c.args.stream c.in-Some.place c.in-Some.ensures.value c.args.bundle c.requires.may c.arrive_in.result c.arrive_in.ensures.ok c.arrive_in.ensures.err in
    let f = arrived-links c.args.plan.now c.requires.plan c.args.size c.args.nodes.now.items c.arrive_in.new.nodes.items c.args.stream c.in-Some.place c.in-Some.ensures.value c.args.bundle c.requires.may.into c.arrive_in.result c.arrive_in.ensures.ok c.arrive_in.ensures.err c.arrive_in.ensures.links c.arrive_in.ensures.stays in
    record { number = a.number; fewer = a.fewer; arrives = a.arrives; settings = a.settings; back = a.back; same = a.same; can = a.can; links = f.links; searches = f.searches }

pub returns-in-None-clause-searches : goal.returns-in-None-clause-searches
returns-in-None-clause-searches c = stay-none c.args.nodes.now.items
