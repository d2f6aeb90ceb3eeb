use Rattle.std.proofs.Common.{◌≡◌, ◌++◌, ◌∷◌, [], Some, None, false, sym, ap, subst, ◌∙◌}
use Rattle.sb_core.specs.declared.moment.Moment.{Moment}
use Rattle.sb_core.specs.declared.moment.Node.{Node}
use Rattle.sb_core.specs.declared.held.Held.TheVariants.{Work}
use Rattle.std.specs.List.{slice_get, slice_set}
use Rattle.sb_core.specs.LaneSteps.{TakesOut}
use Rattle.sb_core.specs.MomentSteps.{after_take}
use Rattle.sb_core.specs.Moments.{lane_at, set_node, set_lane, with_held}
use Rattle.sb_machine.proofs.Becoming.{becomes-memory}
use Rattle.sb_core.proofs.places.InPlace.{then_some, then_none, place, read-there, read-none, node-written, node-same, lane-same, take-done, take-none}
use Rattle.sb_machine.proofs.bundles.take.Goals as goal

pub returns-in_default-get_mut : goal.returns-in_default-get_mut
returns-in_default-get_mut c =
    let m = c.args.moment.now in
    let k = c.args.node in
    let l = c.args.lane in
    let node = c.in-Some.there.now in
    let at : slice_get m.nodes k ≡ Some node = read-there c.nodes.inside.items.items m.nodes k node (c.nodes.view_is ∙ ap (λ (m : Moment). m.nodes) c.moment.view_is) c.in-Some.ensures.item.3.0 c.in-Some.ensures.value in
    let none : slice_get node.lanes l ≡ None = read-none c.there.inside.0.0.items.items node.lanes l (ap (λ (n : Node). n.lanes) c.there.view_is) c.in_default-get_mut.ensures.item.3 in (
      then_none (lane_at m (place k l)) _ (then_some (slice_get m.nodes k) node _ at ∙ none),
      (λ i. record { bundle = c.moment.inside.0.0; nodes = slice_set c.nodes.inside.items.items k (c.there.view_is i); held = c.reserve.new.self.items; rows = c.moment.inside.0.1.1.1.0 })
          ∙ node-written m c.moment.inside.0.0 c.nodes.inside.items.items c.moment.inside.0.1.0 c.moment.inside.0.1.1.0.items.items c.reserve.new.self.items c.moment.inside.0.1.1.1.0 k node c.nodes.view_is c.moment.view_is
          ∙ ap (λ h. set_node k node (with_held h m)) (c.reserve.ensures.items ∙ ap (λ (m : Moment). m.held) c.moment.view_is)
          ∙ node-same m k node at,
    )

pub returns-in_err-bundle : goal.returns-in_err-bundle
returns-in_err-bundle c =
    let m = c.args.moment.now in
    let k = c.args.node in
    let l = c.args.lane in
    let node = c.in-Some.there.now in
    let lane = c.in-Some-get_mut.from.now in
    let at : slice_get m.nodes k ≡ Some node = read-there c.nodes.inside.items.items m.nodes k node (c.nodes.view_is ∙ ap (λ (m : Moment). m.nodes) c.moment.view_is) c.in-Some.ensures.item.3.0 c.in-Some.ensures.value in
    let in_it : slice_get node.lanes l ≡ Some lane = read-there c.there.inside.0.0.items.items node.lanes l lane (ap (λ (n : Node). n.lanes) c.there.view_is) c.in-Some-get_mut.ensures.item.3.0 c.in-Some-get_mut.ensures.value in
    becomes-memory (after_take m (place k l) c.args.number) m _ c.from_residual-in_err-bundle.result c.from_residual-in_err-bundle.ensures.0 c.from_residual-in_err-bundle.ensures.1 (
    (λ i. record { bundle = c.moment.inside.0.0; nodes = slice_set c.nodes.inside.items.items k (set_lane l (c.in_err-bundle.ensures.err i) (c.there.view_is i)); held = c.reserve.new.self.items; rows = c.moment.inside.0.1.1.1.0 })
    ∙ node-written m c.moment.inside.0.0 c.nodes.inside.items.items c.moment.inside.0.1.0 c.moment.inside.0.1.1.0.items.items c.reserve.new.self.items c.moment.inside.0.1.1.1.0 k (set_lane l lane node) c.nodes.view_is c.moment.view_is
    ∙ ap (λ h. set_node k (set_lane l lane node) (with_held h m)) (c.reserve.ensures.items ∙ ap (λ (m : Moment). m.held) c.moment.view_is)
    ∙ lane-same m k node at l lane in_it)

pub returns-in_default-2 : goal.returns-in_default-2
returns-in_default-2 c =
    let m = c.args.moment.now in
    let k = c.args.node in
    let l = c.args.lane in
    let node = c.in-Some.there.now in
    let lane = c.in-Some-get_mut.from.now in
    let at : slice_get m.nodes k ≡ Some node = read-there c.nodes.inside.items.items m.nodes k node (c.nodes.view_is ∙ ap (λ (m : Moment). m.nodes) c.moment.view_is) c.in-Some.ensures.item.3.0 c.in-Some.ensures.value in
    let in_it : slice_get node.lanes l ≡ Some lane = read-there c.there.inside.0.0.items.items node.lanes l lane (ap (λ (n : Node). n.lanes) c.there.view_is) c.in-Some-get_mut.ensures.item.3.0 c.in-Some-get_mut.ensures.value in
    let t = subst (TakesOut c.args.number lane c.take.new.lane) c.in_default-2.is c.in_ok-bundle.ensures.taken in (
      take-none m k node at l lane in_it c.args.number c.take.new.lane t,
      (λ i. record { bundle = c.moment.inside.0.0; nodes = slice_set c.nodes.inside.items.items k (set_lane l (t.1 i) (c.there.view_is i)); held = c.reserve.new.self.items; rows = c.moment.inside.0.1.1.1.0 })
          ∙ node-written m c.moment.inside.0.0 c.nodes.inside.items.items c.moment.inside.0.1.0 c.moment.inside.0.1.1.0.items.items c.reserve.new.self.items c.moment.inside.0.1.1.1.0 k (set_lane l lane node) c.nodes.view_is c.moment.view_is
          ∙ ap (λ h. set_node k (set_lane l lane node) (with_held h m)) (c.reserve.ensures.items ∙ ap (λ (m : Moment). m.held) c.moment.view_is)
          ∙ lane-same m k node at l lane in_it,
    )

pub returns : goal.returns
returns c =
    let m = c.args.moment.now in
    let k = c.args.node in
    let l = c.args.lane in
    let node = c.in-Some.there.now in
    let lane = c.in-Some-get_mut.from.now in
    let b = c.in-Some-2.bundle in
    let at : slice_get m.nodes k ≡ Some node = read-there c.nodes.inside.items.items m.nodes k node (c.nodes.view_is ∙ ap (λ (m : Moment). m.nodes) c.moment.view_is) c.in-Some.ensures.item.3.0 c.in-Some.ensures.value in
    let in_it : slice_get node.lanes l ≡ Some lane = read-there c.there.inside.0.0.items.items node.lanes l lane (ap (λ (n : Node). n.lanes) c.there.view_is) c.in-Some-get_mut.ensures.item.3.0 c.in-Some-get_mut.ensures.value in
    let t = subst (TakesOut c.args.number lane c.take.new.lane) c.in-Some-2.is c.in_ok-bundle.ensures.taken in
    let held : c.push_reserved.new.self.items ≡ m.held ++ Work k l b.epoch b.floor c.args.number b.records false ∷ [] =
    c.push_reserved.ensures.items ∙ ap (λ h. h ++ Work k l b.epoch b.floor c.args.number b.records false ∷ []) (c.reserve.ensures.items ∙ ap (λ (m : Moment). m.held) c.moment.view_is) in
    take-done m k node at l lane in_it c.args.number c.take.new.lane b t
    ∙ sym (
    (λ i. Some (record { bundle = c.moment.inside.0.0; nodes = slice_set c.nodes.inside.items.items k (set_lane l c.take.new.lane (c.there.view_is i)); held = c.push_reserved.new.self.items; rows = c.moment.inside.0.1.1.1.0 }))
    ∙ ap Some (node-written m c.moment.inside.0.0 c.nodes.inside.items.items c.moment.inside.0.1.0 c.moment.inside.0.1.1.0.items.items c.push_reserved.new.self.items c.moment.inside.0.1.1.1.0 k (set_lane l c.take.new.lane node) c.nodes.view_is c.moment.view_is)
    ∙ ap (λ h. Some (set_node k (set_lane l c.take.new.lane node) (with_held h m))) held)
