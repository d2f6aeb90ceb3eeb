use Rattle.std.proofs.Common.{false, subst}
use Rattle.std.specs.Prelude.{slice_get}
use Rattle.sb_shown.specs.base.pipeline.Operators.{operator_at}
use Rattle.sb_shown.specs.work.declared.outputs.Output.{Output}
use Rattle.sb_shown.proofs.lane.Results.{on_ok, both_ok}
use Rattle.sb_hand.proofs.KeptLinks.{absorb-keeps}
use Rattle.sb_hand.proofs.Outputs.{Comes, comes}
use Rattle.sb_hand.proofs.Works.{work-lane, work-part, works-part}
use Rattle.sb_hand.proofs.bundles.finish_bundle.Goals as goal

pub finish_part-requires-clause-at : goal.finish_part-requires-clause-at
finish_part-requires-clause-at c = work-lane c.args.plan.now c.args.size c.args.nodes.now.items c.args.claim.now.node c.args.claim.now.lane c.args.claim.now.bundle false c.requires.ready.can

pub finish_part-requires-clause-takes : goal.finish_part-requires-clause-takes
finish_part-requires-clause-takes c =
    let cl = c.args.claim.now in
    let op = operator_at (slice_get c.args.plan.now.steps cl.node) in
    let o = subst (λ (x : Output). Comes op cl.lane cl.bundle.records x) c.in-Part.is (comes op cl.lane cl.bundle.records c.args.output c.requires.output) in
    work-part c.args.plan.now c.requires.ready.is_plan c.args.size c.args.nodes.now.items cl.node cl.lane cl.bundle c.requires.ready.can c.requires.node c.in-Part.part o.1

pub returns-in-Part-clause-finishes : goal.returns-in-Part-clause-finishes
returns-in-Part-clause-finishes c =
    let cl = c.args.claim.now in
    let op = operator_at (slice_get c.args.plan.now.steps cl.node) in
    let o = subst (λ (x : Output). Comes op cl.lane cl.bundle.records x) c.in-Part.is (comes op cl.lane cl.bundle.records c.args.output c.requires.output) in
    let takes = work-part c.args.plan.now c.requires.ready.is_plan c.args.size c.args.nodes.now.items cl.node cl.lane cl.bundle c.requires.ready.can c.requires.node c.in-Part.part o.1 in
    let has = work-lane c.args.plan.now c.args.size c.args.nodes.now.items cl.node cl.lane cl.bundle false c.requires.ready.can in
    on_ok c.finish_part.result (λ a. works-part c.args.plan.now c.requires.ready.is_plan c.args.size cl.node cl.lane cl.bundle c.args.nodes.now.items c.requires.ready.can c.finish_part.new.nodes.items has.0 c.in-Part.part o.0 takes (a has.0 has.1)) c.finish_part.ensures.absorbs

pub returns-in-Part-clause-links : goal.returns-in-Part-clause-links
returns-in-Part-clause-links c =
    let cl = c.args.claim.now in
    let has = work-lane c.args.plan.now c.args.size c.args.nodes.now.items cl.node cl.lane cl.bundle false c.requires.ready.can in
    both_ok c.finish_part.result (λ a h. absorb-keeps c.args.plan.now c.requires.ready.is_plan c.args.nodes.now.items c.finish_part.new.nodes.items cl.node cl.lane has.0 c.requires.ready.linked cl.bundle.epoch cl.bundle.number c.in-Part.part (a has.0 has.1) h) c.finish_part.ensures.absorbs c.finish_part.ensures.links
