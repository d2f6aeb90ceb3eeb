use Rattle.std.proofs.Common.{◌≡◌, ◌<◌, ◌++◌, true, false, eqb, length, Some, refl, sym, ap, ◌∙◌, arith}
use Rattle.std.specs.Prelude.{◌||◌}
use Rattle.std.specs.List.{remove, slice_get, slice_set}
use Rattle.sb_slow.specs.base.records.Elements.{on_lane}
use Rattle.sb_slow.specs.base.pipeline.Operators.{operator_at}
use Rattle.sb_core.specs.declared.moment.Moment.{Moment}
use Rattle.sb_core.specs.declared.moment.Node.{Node}
use Rattle.sb_core.specs.containers.Choices.{is_empty}
use Rattle.sb_core.specs.Closings.{delivery, kept_elements}
use Rattle.sb_core.specs.Moments.{set_node, with_held}
use Rattle.sb_core.proofs.places.Carried.{empty-by_length}
use Rattle.sb_machine.proofs.Finished.{may-finish, finished-node, finish-is, finish-never, found-in, lane-in, node-in}
use Rattle.sb_core.proofs.places.InPlace.{place, node-written, node_within, node-read, lane_within, lane-read}
use Rattle.sb_machine.proofs.bundles.finish.Goals.{else-not-work-via-then-not-work+in_ok-delivery+else-not-is_empty, else-not-work-via-else-not-work}
use Rattle.sb_machine.proofs.bundles.finish.Goals as goal

pub delivery-requires : goal.delivery-requires
delivery-requires c = node-in c.args.moment.now c.in-Some.ensures.found (c.as_slice.ensures ∙ ap (λ (m : Moment). m.held) c.moment.view_is) c.requires

pub returns-then-not-is_empty-clause-becomes : goal.returns-then-not-is_empty-clause-becomes
returns-then-not-is_empty-clause-becomes c =
    let m = c.args.moment.now in
    let w = c.in-Some.work in
    let found = found-in m c.in-Some.ensures.found (c.as_slice.ensures ∙ ap (λ (m : Moment). m.held) c.moment.view_is) in
    let some : is_empty (delivery (operator_at (slice_get c.args.plan.now.steps c.args.node)) w.records.now) ≡ false =
    sym (ap is_empty c.in_ok-delivery.ensures) ∙ sym (empty-by_length c.in_ok-delivery.field-0.items) ∙ sym (ap (λ n. eqb n 0) c.in_ok-delivery.field-0.ok.0) ∙ sym c.is_empty.ensures ∙ c.if-not-is_empty.true in
    (finish-never c.args.plan.now m c.args.node c.args.lane c.args.number w.epoch w.floor w.records.now w.delivered (remove m.held w.place) found (λ z. c.if-not-work.true z || some z), refl)

pub index_mut-there-requires : goal.index_mut-there-requires
index_mut-there-requires c =
    let lane = lane-in c.args.moment.now c.in-Some.ensures.found (c.as_slice.ensures ∙ ap (λ (m : Moment). m.held) c.moment.view_is) c.requires in
    let nodes : c.nodes.inside.items.items ≡ c.args.moment.now.nodes = c.nodes.view_is ∙ ap (λ (m : Moment). m.nodes) c.moment.view_is in
    let k_in : c.args.node < length c.nodes.inside.items.items = node_within c.args.moment.now (place c.args.node c.args.lane) lane.1 nodes in
    omega (arith, k_in, c.nodes.inside.items.ok.0)

pub absorb-requires : goal.absorb-requires
absorb-requires c = node-in c.args.moment.now c.in-Some.ensures.found (c.as_slice.ensures ∙ ap (λ (m : Moment). m.held) c.moment.view_is) c.requires

pub index_mut-requires : goal.index_mut-requires
index_mut-requires c =
    let lane = lane-in c.args.moment.now c.in-Some.ensures.found (c.as_slice.ensures ∙ ap (λ (m : Moment). m.held) c.moment.view_is) c.requires in
    let nodes : c.nodes.inside.items.items ≡ c.args.moment.now.nodes = c.nodes.view_is ∙ ap (λ (m : Moment). m.nodes) c.moment.view_is in
    let lanes : c.lanes.inside.items.items ≡ c.index_mut-there.result.now.lanes = c.lanes.view_is ∙ ap (λ (n : Node). n.lanes) c.there.view_is in
    let l_in : c.args.lane < length c.lanes.inside.items.items = lane_within c.args.moment.now (place c.args.node c.args.lane) lane.1 nodes c.index_mut-there.ensures.value lanes in
    omega (arith, l_in, c.lanes.inside.items.ok.0)

pub returns-clause-becomes : goal.returns-clause-becomes
returns-clause-becomes c =
    let m = c.args.moment.now in
    let plan = c.args.plan.now in
    let k = c.args.node in
    let l = c.args.lane in
    let n = c.args.number in
    let w = c.in-Some.work in
    let others = remove m.held w.place in
    let held = ap (λ (m : Moment). m.held) c.moment.view_is in
    let found = found-in m c.in-Some.ensures.found (c.as_slice.ensures ∙ held) in
    let lane = lane-in c.args.moment.now c.in-Some.ensures.found (c.as_slice.ensures ∙ held) c.requires in
    let nodes : c.nodes.inside.items.items ≡ m.nodes = c.nodes.view_is ∙ ap (λ (m : Moment). m.nodes) c.moment.view_is in
    let node = c.index_mut-there.result.now in
    let lanes : c.lanes.inside.items.items ≡ node.lanes = c.lanes.view_is ∙ ap (λ (n : Node). n.lanes) c.there.view_is in
    let at : slice_get m.nodes k ≡ Some node = node-read m (place k l) lane.1 nodes c.index_mut-there.ensures.value in
    let in_it : slice_get node.lanes l ≡ Some c.index_mut.result.now = lane-read m (place k l) lane.1 nodes c.index_mut-there.ensures.value lanes c.index_mut.ensures.value in
    let gives = delivery (operator_at (slice_get plan.steps k)) w.records.now in
    let may : may-finish plan m k l n w.epoch w.floor w.records.now w.delivered others found ≡ true = elim c.else-not-work.branch [
      | else-not-work-via-then-not-work+in_ok-delivery+else-not-is_empty v ↦
          let none : is_empty gives ≡ true =
          sym (ap is_empty v.in_ok-delivery.ensures) ∙ sym (empty-by_length v.in_ok-delivery.field-0.items) ∙ sym (ap (λ n. eqb n 0) v.in_ok-delivery.field-0.ok.0) ∙ sym v.is_empty.ensures ∙ v.if-not-is_empty.false in
          (λ z. v.if-not-work.true z || none z)
      | else-not-work-via-else-not-work v ↦ ap (λ b. b || is_empty gives) v.if-not-work.false
    ] in
    let kept : c.absorb.new.kept.items ≡ node.kept ++ kept_elements (operator_at (slice_get plan.steps k)) (on_lane l w.records.now) =
    c.in_ok-absorb.ensures.ok ∙ (λ z. (c.there.view_is z).kept ++ kept_elements (operator_at (slice_get plan.steps k)) (on_lane l w.records.now)) in
    let left : c.remove.new.self.items ≡ others = c.remove.ensures.items ∙ ap (λ hs. remove hs w.place) held in
    finish-is plan m k l n w.epoch w.floor w.records.now w.delivered others found node c.index_mut.result.now at in_it may
    ∙ sym (
    (λ z. Some (record { bundle = c.moment.inside.0.0; nodes = slice_set c.nodes.inside.items.items k (record { lanes = slice_set (lanes z) l (c.finish.ensures z); kept = kept z; closings = (c.there.view_is z).closings }); held = c.remove.new.self.items; rows = c.moment.inside.0.1.1.1.0 }))
    ∙ ap Some (node-written m c.moment.inside.0.0 c.nodes.inside.items.items c.moment.inside.0.1.0 c.moment.inside.0.1.1.0.items.items c.remove.new.self.items c.moment.inside.0.1.1.1.0 k (finished-node plan m k l n w.epoch w.floor w.records.now w.delivered others found node c.index_mut.result.now) c.nodes.view_is c.moment.view_is)
    ∙ ap (λ hs. Some (set_node k (finished-node plan m k l n w.epoch w.floor w.records.now w.delivered others found node c.index_mut.result.now) (with_held hs m))) left)
