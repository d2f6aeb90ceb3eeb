use Rattle.std.proofs.Common.{◌∷◌, [], false}
use Rattle.sb_shown.specs.core.declared.event.Event.TheVariants.{Take}
use Rattle.sb_hand.specs.Runs.{work_of}
use Rattle.sb_hand.proofs.Composing.{can-after}
use Rattle.sb_hand.proofs.KeptLinks.{take-keeps}
use Rattle.sb_hand.proofs.LinkedEvents.{keeps-then}
use Rattle.sb_hand.proofs.Works.{work-times, taken, works}
use Rattle.sb_shown.proofs.lane.Results.{on_ok}
use Rattle.sb_hand.proofs.bundles.work_off.Goals as goal

pub process-requires-clause-times : goal.process-requires-clause-times
process-requires-clause-times c =
    let has = c.requires.waits in
    let can = can-after c.args.plan.now c.args.size (Take c.args.node c.args.lane c.in_ok-bundle.bundle.number ∷ []) c.args.nodes.now.items c.take_at.new.nodes.items [] (work_of c.args.node c.args.lane c.in_ok-bundle.bundle false ∷ []) [] c.requires.ready.can (taken c.args.plan.now c.requires.ready.is_plan c.args.size c.args.node c.args.lane c.args.nodes.now.items c.take_at.new.nodes.items has.0 c.in_ok-bundle.bundle (c.in_ok-bundle.ensures.takes has.0 has.1)) in
    work-times c.args.plan.now c.requires.ready.is_plan c.args.size c.take_at.new.nodes.items c.args.node c.args.lane c.in_ok-bundle.bundle can

pub finish_bundle-requires-clause-ready : goal.finish_bundle-requires-clause-ready
finish_bundle-requires-clause-ready c =
    let has = c.requires.waits in
    let takes = c.in_ok-bundle.ensures.takes has.0 has.1 in
    rw c.in_ok-claim.ensures.kept (record {
      is_plan = c.requires.ready.is_plan;
      can = can-after c.args.plan.now c.args.size (Take c.args.node c.args.lane c.in_ok-bundle.bundle.number ∷ []) c.args.nodes.now.items c.take_at.new.nodes.items [] (work_of c.args.node c.args.lane c.in_ok-bundle.bundle false ∷ []) [] c.requires.ready.can
          (taken c.args.plan.now c.requires.ready.is_plan c.args.size c.args.node c.args.lane c.args.nodes.now.items c.take_at.new.nodes.items has.0 c.in_ok-bundle.bundle takes);
      linked = (take-keeps c.args.plan.now c.requires.ready.is_plan c.args.nodes.now.items c.take_at.new.nodes.items c.args.node c.args.lane has.0 c.requires.ready.linked c.in_ok-bundle.bundle takes c.in_ok-bundle.ensures.links).linked;
    })

pub returns-clause-works : goal.returns-clause-works
returns-clause-works c =
    let has = c.requires.waits in
    on_ok c.finish_bundle.result (works c.args.plan.now c.requires.ready.is_plan c.args.size c.args.node c.args.lane c.args.nodes.now.items c.take_at.new.nodes.items c.finish_bundle.new.nodes.items has.0 c.in_ok-bundle.bundle (c.in_ok-bundle.ensures.takes has.0 has.1)) (rw c.in_ok-claim.ensures.kept at c.finish_bundle.ensures.finishes)

pub returns-clause-links : goal.returns-clause-links
returns-clause-links c =
    let has = c.requires.waits in
    on_ok c.finish_bundle.result (keeps-then c.args.plan.now c.args.nodes.now.items c.take_at.new.nodes.items c.finish_bundle.new.nodes.items (take-keeps c.args.plan.now c.requires.ready.is_plan c.args.nodes.now.items c.take_at.new.nodes.items c.args.node c.args.lane has.0 c.requires.ready.linked c.in_ok-bundle.bundle (c.in_ok-bundle.ensures.takes has.0 has.1) c.in_ok-bundle.ensures.links)) c.finish_bundle.ensures.links
