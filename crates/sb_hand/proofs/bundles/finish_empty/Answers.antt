use Rattle.std.proofs.Common.{false}
use Rattle.sb_shown.specs.diary.declared.event.DiaryEvent.TheVariants as line
use Rattle.sb_hand.proofs.KeptLinks.{finish-keeps}
use Rattle.sb_hand.proofs.Works.{work-lane, works-empty}
use Rattle.sb_shown.proofs.lane.Results.{on_ok, both_ok}
use Rattle.sb_hand.proofs.bundles.finish_empty.Goals as goal

pub finish_at-requires : goal.finish_at-requires
finish_at-requires c = rw (c.node.ensures, c.lane.ensures) (work-lane c.args.plan.now c.args.size c.args.nodes.now.items c.args.claim.now.node c.args.claim.now.lane c.args.claim.now.bundle false c.requires.ready.can)

pub returns-clause-finishes : goal.returns-clause-finishes
returns-clause-finishes c =
    let has = work-lane c.args.plan.now c.args.size c.args.nodes.now.items c.args.claim.now.node c.args.claim.now.lane c.args.claim.now.bundle false c.requires.ready.can in
    on_ok c.finish_at.result (λ e. works-empty c.args.plan.now c.requires.ready.is_plan c.args.size c.args.claim.now.node c.args.claim.now.lane c.args.claim.now.bundle c.args.nodes.now.items c.requires.ready.can c.finish_at.new.nodes.items has.0 c.requires.pardo c.requires.none (e has.0 has.1)) (rw (c.node.ensures, c.lane.ensures, c.epoch.ensures, c.number.ensures) at c.finish_at.ensures.finishes)

pub returns-clause-links : goal.returns-clause-links
returns-clause-links c =
    let has = work-lane c.args.plan.now c.args.size c.args.nodes.now.items c.args.claim.now.node c.args.claim.now.lane c.args.claim.now.bundle false c.requires.ready.can in
    both_ok c.finish_at.result (λ e h. finish-keeps c.args.plan.now c.requires.ready.is_plan c.args.nodes.now.items c.finish_at.new.nodes.items c.args.claim.now.node c.args.claim.now.lane has.0 c.requires.ready.linked c.args.claim.now.bundle.epoch c.args.claim.now.bundle.number (line.Finish c.args.claim.now.lane c.args.claim.now.bundle.number 0) (e has.0 has.1) h) (rw (c.node.ensures, c.lane.ensures, c.epoch.ensures, c.number.ensures) at c.finish_at.ensures.finishes) (rw (c.node.ensures, c.lane.ensures) at c.finish_at.ensures.links)
