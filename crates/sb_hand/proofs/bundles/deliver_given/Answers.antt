use Rattle.std.proofs.Common.{◌∷◌, [], true, false, length, ap, ◌∙◌}
use Rattle.sb_shown.specs.core.declared.event.Event.TheVariants.{Deliver}
use Rattle.sb_shown.specs.diary.declared.event.DiaryEvent.TheVariants as line
use Rattle.sb_shown.proofs.lane.Results.{on_ok, both_ok}
use Rattle.sb_hand.specs.Runs.{work_of}
use Rattle.sb_hand.proofs.Composing.{can-after}
use Rattle.sb_hand.proofs.KeptLinks.{finish-keeps}
use Rattle.sb_hand.proofs.LinkedEvents.{keeps-then}
use Rattle.sb_hand.proofs.Works.{work-lane, works-given}
use Rattle.sb_hand.proofs.bundles.deliver_given.Goals as goal

pub finish_at-requires : goal.finish_at-requires
finish_at-requires c =
    let g = c.in_ok-give.ensures.gives in
    let has = work-lane c.args.plan.now c.args.size c.give.new.nodes.items c.args.claim.now.node c.args.claim.now.lane c.args.claim.now.bundle true (can-after c.args.plan.now c.args.size (Deliver c.args.claim.now.node c.args.claim.now.lane c.args.claim.now.bundle.number ∷ []) c.args.nodes.now.items c.give.new.nodes.items (work_of c.args.claim.now.node c.args.claim.now.lane c.args.claim.now.bundle false ∷ []) (work_of c.args.claim.now.node c.args.claim.now.lane c.args.claim.now.bundle true ∷ []) [] c.requires.ready.can g.does) in
    rw (c.node.ensures, c.lane.ensures) has

pub returns-clause-finishes : goal.returns-clause-finishes
returns-clause-finishes c =
    let g = c.in_ok-give.ensures.gives in
    let has = work-lane c.args.plan.now c.args.size c.give.new.nodes.items c.args.claim.now.node c.args.claim.now.lane c.args.claim.now.bundle true (can-after c.args.plan.now c.args.size (Deliver c.args.claim.now.node c.args.claim.now.lane c.args.claim.now.bundle.number ∷ []) c.args.nodes.now.items c.give.new.nodes.items (work_of c.args.claim.now.node c.args.claim.now.lane c.args.claim.now.bundle false ∷ []) (work_of c.args.claim.now.node c.args.claim.now.lane c.args.claim.now.bundle true ∷ []) [] c.requires.ready.can g.does) in
    on_ok c.finish_at.result (λ e. works-given c.args.plan.now c.requires.ready.is_plan c.args.size c.args.claim.now.node c.args.claim.now.lane c.args.claim.now.bundle c.args.nodes.now.items c.requires.ready.can c.give.new.nodes.items c.finish_at.new.nodes.items has.0 (length c.as_slice.result.now) (ap length c.as_slice.ensures ∙ ap length c.requires.given_is) c.requires.pardo g.does g.lowers g.settings (e has.0 has.1)) (rw (c.node.ensures, c.lane.ensures, c.epoch.ensures, c.number.ensures) at c.finish_at.ensures.finishes)

pub returns-clause-links : goal.returns-clause-links
returns-clause-links c =
    let g = c.in_ok-give.ensures.gives in
    let has = work-lane c.args.plan.now c.args.size c.give.new.nodes.items c.args.claim.now.node c.args.claim.now.lane c.args.claim.now.bundle true (can-after c.args.plan.now c.args.size (Deliver c.args.claim.now.node c.args.claim.now.lane c.args.claim.now.bundle.number ∷ []) c.args.nodes.now.items c.give.new.nodes.items (work_of c.args.claim.now.node c.args.claim.now.lane c.args.claim.now.bundle false ∷ []) (work_of c.args.claim.now.node c.args.claim.now.lane c.args.claim.now.bundle true ∷ []) [] c.requires.ready.can g.does) in
    both_ok c.finish_at.result (λ e h. keeps-then c.args.plan.now c.args.nodes.now.items c.give.new.nodes.items c.finish_at.new.nodes.items c.in_ok-give.ensures.links (finish-keeps c.args.plan.now c.requires.ready.is_plan c.give.new.nodes.items c.finish_at.new.nodes.items c.args.claim.now.node c.args.claim.now.lane has.0 c.in_ok-give.ensures.links.linked c.args.claim.now.bundle.epoch c.args.claim.now.bundle.number (line.Finish c.args.claim.now.lane c.args.claim.now.bundle.number (length c.as_slice.result.now)) (e has.0 has.1) h)) (rw (c.node.ensures, c.lane.ensures, c.epoch.ensures, c.number.ensures) at c.finish_at.ensures.finishes) (rw (c.node.ensures, c.lane.ensures) at c.finish_at.ensures.links)
