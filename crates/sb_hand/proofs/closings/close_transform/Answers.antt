use Rattle.std.proofs.Common.{◌∷◌, [], true, false, refl}
use Rattle.sb_shown.specs.core.declared.event.Event.TheVariants.{Pass}
use Rattle.sb_hand.specs.Runs.{close_of, deliveries}
use Rattle.sb_shown.specs.core.containers.Lanes.{next_epoch}
use Rattle.sb_shown.specs.diary.declared.event.DiaryEvent.TheVariants as line
use Rattle.sb_shown.specs.lane.LaneView.{lane_of}
use Rattle.sb_hand.proofs.KeptLinks.{end-keeps, seal-keeps}
use Rattle.sb_hand.proofs.LinkedEvents.{keeps-then}
use Rattle.sb_hand.proofs.Composing.{can-after}
use Rattle.sb_hand.proofs.Having.{has-down, closing-lane}
use Rattle.sb_hand.proofs.Doing.{passes, ends}
use Rattle.sb_shown.proofs.lane.Results.{on_ok, both_ok}
use Rattle.sb_hand.proofs.closings.close_transform.Goals as goal

pub seal_at-requires : goal.seal_at-requires
seal_at-requires c =
    let cl = c.args.closing.now in
    let d = c.in_ok-deliver_rows.ensures.does in
    has-down c.args.plan.now c.args.bundle c.deliver_rows.new.nodes.items (close_of cl [] false ∷ [])
    (can-after c.args.plan.now c.args.bundle (deliveries cl.node cl.lane d.count) c.args.nodes.now.items c.deliver_rows.new.nodes.items (close_of cl cl.rows.items false ∷ []) (close_of cl [] false ∷ []) [] c.requires.ready.can d.does)
    cl.node c.down.result c.down.ensures.down

pub end_at-requires : goal.end_at-requires
end_at-requires c =
    let cl = c.args.closing.now in
    let d = c.in_ok-deliver_rows.ensures.does in
    let can = can-after c.args.plan.now c.args.bundle (deliveries cl.node cl.lane d.count) c.args.nodes.now.items c.deliver_rows.new.nodes.items (close_of cl cl.rows.items false ∷ []) (close_of cl [] false ∷ []) [] c.requires.ready.can d.does in
    let has = has-down c.args.plan.now c.args.bundle c.deliver_rows.new.nodes.items (close_of cl [] false ∷ []) can cl.node c.down.result c.down.ensures.down in
    let pass = passes c.args.plan.now c.requires.ready.is_plan c.args.bundle cl c.deliver_rows.new.nodes.items c.seal_at.new.nodes.items c.down.result has.0 c.down.ensures.down (c.in_ok-seal_at.ensures.seals has.0 has.1) in
    let sealed = can-after c.args.plan.now c.args.bundle (Pass cl.node ∷ []) c.deliver_rows.new.nodes.items c.seal_at.new.nodes.items (close_of cl [] false ∷ []) (close_of cl [] true ∷ []) [] can pass in
    closing-lane c.args.plan.now c.args.bundle c.seal_at.new.nodes.items (close_of cl [] true ∷ []) sealed.rows sealed.moment sealed.stands cl.node cl.lane cl.epoch cl.serial cl.floor cl.mark [] true refl

pub returns-clause-ends : goal.returns-clause-ends
returns-clause-ends c =
    let cl = c.args.closing.now in
    let d = c.in_ok-deliver_rows.ensures.does in
    let can = can-after c.args.plan.now c.args.bundle (deliveries cl.node cl.lane d.count) c.args.nodes.now.items c.deliver_rows.new.nodes.items (close_of cl cl.rows.items false ∷ []) (close_of cl [] false ∷ []) [] c.requires.ready.can d.does in
    let has = has-down c.args.plan.now c.args.bundle c.deliver_rows.new.nodes.items (close_of cl [] false ∷ []) can cl.node c.down.result c.down.ensures.down in
    let turned = c.in_ok-seal_at.ensures.seals has.0 has.1 in
    let pass = passes c.args.plan.now c.requires.ready.is_plan c.args.bundle cl c.deliver_rows.new.nodes.items c.seal_at.new.nodes.items c.down.result has.0 c.down.ensures.down turned in
    let sealed = can-after c.args.plan.now c.args.bundle (Pass cl.node ∷ []) c.deliver_rows.new.nodes.items c.seal_at.new.nodes.items (close_of cl [] false ∷ []) (close_of cl [] true ∷ []) [] can pass in
    let own = closing-lane c.args.plan.now c.args.bundle c.seal_at.new.nodes.items (close_of cl [] true ∷ []) sealed.rows sealed.moment sealed.stands cl.node cl.lane cl.epoch cl.serial cl.floor cl.mark [] true refl in
    on_ok c.end_at.result (λ e. ends c.args.plan.now c.requires.ready.is_plan c.args.bundle cl c.args.nodes.now.items c.deliver_rows.new.nodes.items c.seal_at.new.nodes.items c.end_at.new.nodes.items c.down.result has.0 own.0 d c.down.ensures.down turned (e own.0 own.1) own.3) c.end_at.ensures.ends

pub returns-clause-links : goal.returns-clause-links
returns-clause-links c =
    let cl = c.args.closing.now in
    let d = c.in_ok-deliver_rows.ensures.does in
    let can = can-after c.args.plan.now c.args.bundle (deliveries cl.node cl.lane d.count) c.args.nodes.now.items c.deliver_rows.new.nodes.items (close_of cl cl.rows.items false ∷ []) (close_of cl [] false ∷ []) [] c.requires.ready.can d.does in
    let has = has-down c.args.plan.now c.args.bundle c.deliver_rows.new.nodes.items (close_of cl [] false ∷ []) can cl.node c.down.result c.down.ensures.down in
    let turned = c.in_ok-seal_at.ensures.seals has.0 has.1 in
    let pass = passes c.args.plan.now c.requires.ready.is_plan c.args.bundle cl c.deliver_rows.new.nodes.items c.seal_at.new.nodes.items c.down.result has.0 c.down.ensures.down turned in
    let sealed = can-after c.args.plan.now c.args.bundle (Pass cl.node ∷ []) c.deliver_rows.new.nodes.items c.seal_at.new.nodes.items (close_of cl [] false ∷ []) (close_of cl [] true ∷ []) [] can pass in
    let own = closing-lane c.args.plan.now c.args.bundle c.seal_at.new.nodes.items (close_of cl [] true ∷ []) sealed.rows sealed.moment sealed.stands cl.node cl.lane cl.epoch cl.serial cl.floor cl.mark [] true refl in
    let down = c.in_ok-deliver_rows.ensures.links in
    let over = seal-keeps c.args.plan.now c.requires.ready.is_plan c.deliver_rows.new.nodes.items c.seal_at.new.nodes.items c.down.result.node c.down.result.lane has.0 down.linked c.args.bundle (close_of cl [] false ∷ []) can.rows can.moment can.stands cl.mark (line.Seal c.down.result.lane (next_epoch (lane_of has.0)) cl.mark) turned c.in_ok-seal_at.ensures.links in
    both_ok c.end_at.result (λ e g.
    keeps-then c.args.plan.now c.args.nodes.now.items c.deliver_rows.new.nodes.items c.end_at.new.nodes.items down
    (keeps-then c.args.plan.now c.deliver_rows.new.nodes.items c.seal_at.new.nodes.items c.end_at.new.nodes.items over
    (end-keeps c.args.plan.now c.requires.ready.is_plan c.seal_at.new.nodes.items c.end_at.new.nodes.items cl.node cl.lane own.0 over.linked c.args.bundle (close_of cl [] true ∷ []) sealed.rows sealed.moment sealed.stands (line.End cl.lane cl.epoch) (e own.0 own.1) g own.3))) c.end_at.ensures.ends c.end_at.ensures.links
